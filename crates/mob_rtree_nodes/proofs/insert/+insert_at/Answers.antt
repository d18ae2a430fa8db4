use Rattle.std.{specs.Prelude.{MatchOption}, proofs.Common.{arith, ◌≡◌, sym, ◌∙◌, ap, subst, ◌+◌, ◌≤◌, true, length, set, List}, proofs.lemmas.List.{length-set, get_or-set_same}}
use Rattle.std.proofs.lemmas.List.Elements.{All-set}
use Rattle.mob_rtree_nodes.{specs.Tree.{Kid, target, is_fit, IsSoundNode, height_at}, specs.declared.node.TreeNode.{TreeNode}, proofs.Sums.{height_of, kids_of}}
use Rattle.mob_rtree_nodes.{proofs.Inserts.{grown_leaf, grown_none, grown_some, lower, beneath, still_live}, proofs.Frees.{reused_trans}}
use Rattle.mob_rtree_nodes.proofs.insert.+insert_at.Goals as goal

pub place-requires-clause-fit : goal.place-requires-clause-fit
place-requires-clause-fit t c = ap (λ h. is_fit h c.args.kid) (height_of c.args.nodes.now.items c.args.node c.index-part.result.now c.requires.there c.index-part.ensures ∙ c.if-part-eq0.true) ∙ c.requires.fit

pub returns-then-part-eq0-clause-grown : goal.returns-then-part-eq0-clause-grown
returns-then-part-eq0-clause-grown t c =
    let live = ap (λ (l : List Kid). length l) (kids_of c.args.nodes.now.items c.args.node c.index-part.result.now c.requires.there c.index-part.ensures) in
    let l = c.requires.live in
    grown_leaf c.args.nodes.now.items c.args.node c.index-part.result.now c.args.kid c.place.result c.place.new.nodes.items c.requires.there c.index-part.ensures c.if-part-eq0.true (omega (arith, live, l)) c.requires.tree.1.sound c.place.ensures.attached

pub choose-slot-requires : goal.choose-slot-requires
choose-slot-requires t c =
    let live = ap (λ (l : List Kid). length l) (kids_of c.args.nodes.now.items c.args.node c.index-part.result.now c.requires.there c.index-part.ensures) in
    let l = c.requires.live in
    let v = ap (λ (l : List Kid). length l) c.as_slice-kids.ensures.value in
    record { some = omega (arith, live, l, v) }

pub insert_at-grown-requires : goal.insert_at-grown-requires
insert_at-grown-requires t c =
    let d = lower c.requires.tree.0 c.args.nodes.now.items c.requires.tree.1 c.args.node c.choose-slot.result c.index-part.result.now c.as_slice-kids.result.now c.index-kids-slot.result c.number-below.result c.requires.there c.index-part.ensures c.as_slice-kids.ensures.value c.choose-slot.ensures.there c.index-kids-slot.is (c.number-below.ensures.target ∙ ap (λ (k : Kid). target k.1) (sym c.index-kids-slot.is)) c.if-part-eq0.false in
    let e = c.decreases in
    let s = c.requires.small in
    let r = c.requires.room in
    (omega (arith, d.high, e, d.here, d.up), (c.requires.tree, (d.there, (d.alive, (c.requires.fit, (c.requires.free, (omega (arith, d.high, s, d.here, d.up), omega (arith, d.high, r, d.here, d.up))))))))

pub widen-requires-clause-slot : goal.widen-requires-clause-slot
widen-requires-clause-slot t c =
    let b = beneath c.requires.tree.1 c.requires.there c.index-part.ensures c.as_slice-kids.ensures.value c.choose-slot.ensures.there c.index-kids-slot.is (c.number-below.ensures.target ∙ ap (λ (k : Kid). target k.1) (sym c.index-kids-slot.is)) c.if-part-eq0.false c.insert_at-grown.ensures.grown c.index_mut-part.ensures.value in
    b.within

pub place-requires-in-Some-clause-live : goal.place-requires-in-Some-clause-live
place-requires-in-Some-clause-live t c =
    let b = beneath c.requires.tree.1 c.requires.there c.index-part.ensures c.as_slice-kids.ensures.value c.choose-slot.ensures.there c.index-kids-slot.is (c.number-below.ensures.target ∙ ap (λ (k : Kid). target k.1) (sym c.index-kids-slot.is)) c.if-part-eq0.false c.insert_at-grown.ensures.grown c.index_mut-part.ensures.value in
    let still = still_live c.insert_at-grown.new.free.items c.insert_at-grown.new.nodes.items c.args.node c.choose-slot.result c.index_mut-part.result.now c.widen.new.part c.index-kids-slot.result c.insert_at-grown.result.area b.there c.index_mut-part.ensures.value b.within c.widen.ensures.replaced c.insert_at-grown.ensures.free in
    still.live

pub place-requires-in-Some-clause-free : goal.place-requires-in-Some-clause-free
place-requires-in-Some-clause-free t c =
    let b = beneath c.requires.tree.1 c.requires.there c.index-part.ensures c.as_slice-kids.ensures.value c.choose-slot.ensures.there c.index-kids-slot.is (c.number-below.ensures.target ∙ ap (λ (k : Kid). target k.1) (sym c.index-kids-slot.is)) c.if-part-eq0.false c.insert_at-grown.ensures.grown c.index_mut-part.ensures.value in
    let still = still_live c.insert_at-grown.new.free.items c.insert_at-grown.new.nodes.items c.args.node c.choose-slot.result c.index_mut-part.result.now c.widen.new.part c.index-kids-slot.result c.insert_at-grown.result.area b.there c.index_mut-part.ensures.value b.within c.widen.ensures.replaced c.insert_at-grown.ensures.free in
    still.free

pub returns-in-None-clause-free : goal.returns-in-None-clause-free
returns-in-None-clause-free t c =
    let b = beneath c.requires.tree.1 c.requires.there c.index-part.ensures c.as_slice-kids.ensures.value c.choose-slot.ensures.there c.index-kids-slot.is (c.number-below.ensures.target ∙ ap (λ (k : Kid). target k.1) (sym c.index-kids-slot.is)) c.if-part-eq0.false c.insert_at-grown.ensures.grown c.index_mut-part.ensures.value in
    let still = still_live c.insert_at-grown.new.free.items c.insert_at-grown.new.nodes.items c.args.node c.choose-slot.result c.index_mut-part.result.now c.widen.new.part c.index-kids-slot.result c.insert_at-grown.result.area b.there c.index_mut-part.ensures.value b.within c.widen.ensures.replaced c.insert_at-grown.ensures.free in
    still.free

pub returns-in-None-clause-reused : goal.returns-in-None-clause-reused
returns-in-None-clause-reused t c =
    let b = beneath c.requires.tree.1 c.requires.there c.index-part.ensures c.as_slice-kids.ensures.value c.choose-slot.ensures.there c.index-kids-slot.is (c.number-below.ensures.target ∙ ap (λ (k : Kid). target k.1) (sym c.index-kids-slot.is)) c.if-part-eq0.false c.insert_at-grown.ensures.grown c.index_mut-part.ensures.value in
    let still = still_live c.insert_at-grown.new.free.items c.insert_at-grown.new.nodes.items c.args.node c.choose-slot.result c.index_mut-part.result.now c.widen.new.part c.index-kids-slot.result c.insert_at-grown.result.area b.there c.index_mut-part.ensures.value b.within c.widen.ensures.replaced c.insert_at-grown.ensures.free in
    reused_trans c.args.nodes.now.items c.insert_at-grown.new.nodes.items (set c.insert_at-grown.new.nodes.items c.args.node c.widen.new.part) c.insert_at-grown.ensures.reused still.reused

pub returns-in-Some-clause-reused : goal.returns-in-Some-clause-reused
returns-in-Some-clause-reused t c =
    let b = beneath c.requires.tree.1 c.requires.there c.index-part.ensures c.as_slice-kids.ensures.value c.choose-slot.ensures.there c.index-kids-slot.is (c.number-below.ensures.target ∙ ap (λ (k : Kid). target k.1) (sym c.index-kids-slot.is)) c.if-part-eq0.false c.insert_at-grown.ensures.grown c.index_mut-part.ensures.value in
    let still = still_live c.insert_at-grown.new.free.items c.insert_at-grown.new.nodes.items c.args.node c.choose-slot.result c.index_mut-part.result.now c.widen.new.part c.index-kids-slot.result c.insert_at-grown.result.area b.there c.index_mut-part.ensures.value b.within c.widen.ensures.replaced c.insert_at-grown.ensures.free in
    let widened = reused_trans c.args.nodes.now.items c.insert_at-grown.new.nodes.items (set c.insert_at-grown.new.nodes.items c.args.node c.widen.new.part) c.insert_at-grown.ensures.reused still.reused in
    reused_trans c.args.nodes.now.items (set c.insert_at-grown.new.nodes.items c.args.node c.widen.new.part) c.place-in-Some.new.nodes.items widened c.place-in-Some.ensures.reused

pub place-requires-in-Some-clause-fit : goal.place-requires-in-Some-clause-fit
place-requires-in-Some-clause-fit t c =
    let b = beneath c.requires.tree.1 c.requires.there c.index-part.ensures c.as_slice-kids.ensures.value c.choose-slot.ensures.there c.index-kids-slot.is (c.number-below.ensures.target ∙ ap (λ (k : Kid). target k.1) (sym c.index-kids-slot.is)) c.if-part-eq0.false c.insert_at-grown.ensures.grown c.index_mut-part.ensures.value in
    let n = c.args.node in
    let ps1 = c.insert_at-grown.new.nodes.items in
    let part = c.widen.new.part in
    let a = height_of (set ps1 n part) n part (omega (arith, b.there, length-set ps1 n part)) (sym (get_or-set_same ps1 n part part b.there)) in
    let h : part.height ≡ height_at c.args.nodes.now.items c.number-below.result + 1 = c.widen.ensures.replaced.height ∙ ap (λ (p : TreeNode). p.height) b.same ∙ omega (arith, b.lower.up, b.lower.high) in
    ap (λ h. is_fit h c.in-Some.more) (a ∙ h) ∙ subst (λ o. MatchOption o (0 ≤ 0) (λ k. is_fit (height_at c.args.nodes.now.items c.number-below.result + 1) k ≡ true)) c.in-Some.is c.insert_at-grown.ensures.grown.more

pub place-requires-in-Some-clause-small : goal.place-requires-in-Some-clause-small
place-requires-in-Some-clause-small t c =
    let b = beneath c.requires.tree.1 c.requires.there c.index-part.ensures c.as_slice-kids.ensures.value c.choose-slot.ensures.there c.index-kids-slot.is (c.number-below.ensures.target ∙ ap (λ (k : Kid). target k.1) (sym c.index-kids-slot.is)) c.if-part-eq0.false c.insert_at-grown.ensures.grown c.index_mut-part.ensures.value in
    let s = c.requires.small in
    let few = c.insert_at-grown.ensures.grown.few in
    omega (arith, length-set c.insert_at-grown.new.nodes.items c.args.node c.widen.new.part, b.lower.high, s, b.lower.here, b.lower.up, few)

pub place-requires-in-Some-clause-room : goal.place-requires-in-Some-clause-room
place-requires-in-Some-clause-room t c =
    let b = beneath c.requires.tree.1 c.requires.there c.index-part.ensures c.as_slice-kids.ensures.value c.choose-slot.ensures.there c.index-kids-slot.is (c.number-below.ensures.target ∙ ap (λ (k : Kid). target k.1) (sym c.index-kids-slot.is)) c.if-part-eq0.false c.insert_at-grown.ensures.grown c.index_mut-part.ensures.value in
    let r = c.requires.room in
    let few = c.insert_at-grown.ensures.grown.few in
    let o = c.args.nodes.now.ok.0 in
    let o1 = c.insert_at-grown.new.nodes.ok.0 in
    let cap = c.insert_at-grown.ensures.capacity in
    omega (arith, b.lower.high, r, b.lower.here, b.lower.up, few, o, o1, cap)

pub returns-in-None-clause-grown : goal.returns-in-None-clause-grown
returns-in-None-clause-grown t c =
    let b = beneath c.requires.tree.1 c.requires.there c.index-part.ensures c.as_slice-kids.ensures.value c.choose-slot.ensures.there c.index-kids-slot.is (c.number-below.ensures.target ∙ ap (λ (k : Kid). target k.1) (sym c.index-kids-slot.is)) c.if-part-eq0.false c.insert_at-grown.ensures.grown c.index_mut-part.ensures.value in
    grown_none c.requires.tree.0 c.args.nodes.now.items c.requires.tree.1 c.args.node b.lower.h c.choose-slot.result c.index-part.result.now c.index-kids-slot.result c.requires.there c.index-part.ensures b.lower.up b.lower.within b.lower.at c.args.kid c.insert_at-grown.result c.insert_at-grown.new.nodes.items b.below c.index_mut-part.result.now c.widen.new.part c.index_mut-part.ensures.value c.widen.ensures.replaced c.in-None.is

pub returns-in-Some-clause-grown : goal.returns-in-Some-clause-grown
returns-in-Some-clause-grown t c =
    let b = beneath c.requires.tree.1 c.requires.there c.index-part.ensures c.as_slice-kids.ensures.value c.choose-slot.ensures.there c.index-kids-slot.is (c.number-below.ensures.target ∙ ap (λ (k : Kid). target k.1) (sym c.index-kids-slot.is)) c.if-part-eq0.false c.insert_at-grown.ensures.grown c.index_mut-part.ensures.value in
    grown_some c.requires.tree.0 c.args.nodes.now.items c.requires.tree.1 c.args.node b.lower.h c.choose-slot.result c.index-part.result.now c.index-kids-slot.result c.requires.there c.index-part.ensures b.lower.up b.lower.within b.lower.at c.args.kid c.insert_at-grown.result c.insert_at-grown.new.nodes.items b.below c.index_mut-part.result.now c.widen.new.part c.index_mut-part.ensures.value c.widen.ensures.replaced c.in-Some.more c.place-in-Some.result c.place-in-Some.new.nodes.items c.in-Some.is c.place-in-Some.ensures.attached

pub place-requires-in-Some-clause-sound : goal.place-requires-in-Some-clause-sound
place-requires-in-Some-clause-sound t c = All-set IsSoundNode c.insert_at-grown.new.nodes.items c.args.node c.widen.new.part c.widen.ensures.replaced.sound c.insert_at-grown.ensures.grown.sound
