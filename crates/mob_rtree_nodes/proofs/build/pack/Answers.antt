use Rattle.std.{proofs.Common.{◌≡◌, ap, ◌∙◌, sym, subst, arith, ◌+◌, ◌++◌, ◌∷◌, [], List, length, take, take_all, length-append}, proofs.lemmas.List.{take_more}}
use Rattle.mob_rtree_nodes.{specs.Tree.{Kid}, specs.Builds.{IsPacking}, proofs.Builds.{packing_start, packing_close, forest_up}, proofs.Inserts.{leaf_nil}}
use Rattle.mob_rtree_nodes.proofs.build.pack.Goals as goal

pub loop-kid-init : goal.loop-kid-init
loop-kid-init c =
    let h = c.args.height in
    let old = c.args.nodes.now.items in
    let s = packing_start h c.args.kids.now old c.requires.forest in
    let a = subst (λ above. IsPacking h old [] old above []) (sym c.new-above.ensures.items) s in
    let b = subst (λ waiting. IsPacking h old [] old c.new-above.result.items waiting) (sym c.new-waiting.ensures) a in
    (b, omega (arith, ap (λ (l : List Kid). length l) c.new-above.ensures.items, ap (λ (l : List Kid). length l) c.new-waiting.ensures), λ l. absurd (omega (arith, l)))

pub pack_one-requires-clause-fit : goal.pack_one-requires-clause-fit
pack_one-requires-clause-fit c = c.loop-kid.invariant.0.waits

pub loop-kid-preserved : goal.loop-kid-preserved
loop-kid-preserved c =
    let i = c.loop-kid.kid-index in
    let k = c.kid-item.result in
    let p = c.in_ok-waiting.ensures.packing c.args.nodes.now.items (take i c.args.kids.now) c.loop-kid.invariant.0 in
    let e : take (i + 1) c.args.kids.now ≡ take i c.args.kids.now ++ k ∷ [] = take_more c.args.kids.now i k c.loop-kid-test.true ∙ ap (λ x. take i c.args.kids.now ++ x ∷ []) (sym c.kid-item.is) in
    let n = c.loop-kid.invariant.1 in
    let m = c.in_ok-waiting.ensures.count in
    (subst (λ came. IsPacking c.args.height c.args.nodes.now.items came c.pack_one.new.nodes.items c.pack_one.new.above.items c.in_ok-waiting.waiting.items) (sym e) p, omega (arith, n, m), λ l. c.in_ok-waiting.ensures.some)

pub close-requires-clause-some : goal.close-requires-clause-some
close-requires-clause-some c = let s = c.requires.some in let f = c.loop-kid-test.false in c.loop-kid.invariant.2 (omega (arith, s, f))

pub close-requires-clause-fit : goal.close-requires-clause-fit
close-requires-clause-fit c = c.loop-kid.invariant.0.waits

pub returns-clause-forest : goal.returns-clause-forest
returns-clause-forest c =
    let h = c.args.height in
    let old = c.args.nodes.now.items in
    let i = c.loop-kid.kid-index in
    let s = c.requires.some in
    let f = c.loop-kid-test.false in
    let p = packing_close h old (take i c.args.kids.now) c.loop-kid.nodes.items c.loop-kid.above.items c.loop-kid.waiting.items c.close.new.nodes.items c.close.new.above.items (c.loop-kid.invariant.2 (omega (arith, s, f))) c.loop-kid.invariant.0 c.in_ok-close.ensures.closed in
    let q = subst (λ came. IsPacking h old came c.close.new.nodes.items c.close.new.above.items []) (take_all i c.args.kids.now f) p in
    forest_up h c.args.kids.now old c.close.new.nodes.items c.close.new.above.items c.requires.forest q

pub returns-clause-entries : goal.returns-clause-entries
returns-clause-entries c g =
    let h = c.args.height in
    let old = c.args.nodes.now.items in
    let i = c.loop-kid.kid-index in
    let s = c.requires.some in
    let f = c.loop-kid-test.false in
    let p = packing_close h old (take i c.args.kids.now) c.loop-kid.nodes.items c.loop-kid.above.items c.loop-kid.waiting.items c.close.new.nodes.items c.close.new.above.items (c.loop-kid.invariant.2 (omega (arith, s, f))) c.loop-kid.invariant.0 c.in_ok-close.ensures.closed in
    let q = subst (λ came. IsPacking h old came c.close.new.nodes.items c.close.new.above.items []) (take_all i c.args.kids.now f) p in
    omega (arith, q.entries g, leaf_nil g h)

pub returns-clause-fewer : goal.returns-clause-fewer
returns-clause-fewer c =
    let i = c.loop-kid.kid-index in
    let s = c.requires.some in
    let f = c.loop-kid-test.false in
    let e = c.loop-kid.auto.kid-index-end in
    let w = c.loop-kid.invariant.2 (omega (arith, s, f)) in
    let n = c.loop-kid.invariant.1 in
    let l = ap (λ (l : List Kid). length l) c.in_ok-close.ensures.closed.listed ∙ length-append c.loop-kid.above.items _ in
    (omega (arith, l), omega (arith, l, e, w, n))
