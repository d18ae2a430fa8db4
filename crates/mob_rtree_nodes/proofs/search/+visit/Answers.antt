use Rattle.std.proofs.Common.{arith, sym, ◌∙◌, ap, append_assoc, ◌+◌, ◌++◌, Bool, [], ◌∷◌}
use Rattle.mob_stbox.specs.Boxes.{BoxOf, overlaps}
use Rattle.mob_rtree_nodes.{specs.Tree.{target, height_at, walk_sum}, proofs.Visits.{down, found_all, cost_all, cost_more, found_skip, found_leaf, found_down, step_down}}
use Rattle.mob_rtree_nodes.proofs.search.+visit.Goals.{then-overlaps+then-part-eq0+in_ok-push, then-overlaps+else-part-eq0+in_ok-visit, else-overlaps}
use Rattle.mob_rtree_nodes.proofs.search.+visit.Goals as goal

pub returns-in_err-push-clause-cost : goal.returns-in_err-push-clause-cost
returns-in_err-push-clause-cost g t c =
    let fits = c.as_slice-kid-items.ensures.fits in
    let test = c.loop-kid-test.true in
    let b = cost_more (λ b. overlaps b c.args.q.now) c.args.nodes.now c.index-nodes-node.result.height c.as_slice-kid-items.result.now c.loop-kid.kid-index c.kid-item.result c.kid-item.is test [] [] c.args.steps.now c.loop-kid.steps c.tick.new.self c.loop-kid.invariant.1 (omega (arith, c.tick.ensures.counted)) in
    cost_all (λ b. overlaps b c.args.q.now) c.args.nodes.now c.args.node (c.loop-kid.kid-index + 1) c.index-nodes-node.result c.as_slice-kid-items.result.now c.args.steps.now c.tick.new.self c.requires.there c.index-nodes-node.is c.as_slice-kid-items.ensures.value (omega (arith, fits, test)) b

pub visit-requires : goal.visit-requires
visit-requires g t c κs within =
    let d = down c.requires.tree.0 c.args.nodes.now c.requires.tree.1 c.args.node c.loop-kid.kid-index c.index-nodes-node.result c.as_slice-kid-items.result.now c.kid-item.result c.requires.there c.index-nodes-node.is c.as_slice-kid-items.ensures.value c.loop-kid-test.true c.kid-item.is c.if-part-eq0.false in
    let e = c.decreases in
    let n = c.number-number.ensures.target in
    let hn = ap (height_at c.args.nodes.now) n in
    (omega (arith, d.1, d.2, e, hn), (within, (c.requires.tree, omega (arith, d.0, n))))

pub returns-in_err-visit-clause-cost : goal.returns-in_err-visit-clause-cost
returns-in_err-visit-clause-cost g t c =
    let fits = c.as_slice-kid-items.ensures.fits in
    let test = c.loop-kid-test.true in
    let d = down c.requires.tree.0 c.args.nodes.now c.requires.tree.1 c.args.node c.loop-kid.kid-index c.index-nodes-node.result c.as_slice-kid-items.result.now c.kid-item.result c.requires.there c.index-nodes-node.is c.as_slice-kid-items.ensures.value c.loop-kid-test.true c.kid-item.is c.if-part-eq0.false in
    let s = step_down (λ b. overlaps b c.args.q.now) 1 (λ _. 0) c.args.nodes.now c.index-nodes-node.result.height _ c.kid-item.result d.1 (sym c.overlaps.ensures.test ∙ c.if-overlaps.true) in
    let same = ap (λ n. walk_sum (λ b. overlaps b c.args.q.now) 1 (λ _. 0) c.args.nodes.now (height_at c.args.nodes.now n) n) c.number-number.ensures.target in
    let b = cost_more (λ b. overlaps b c.args.q.now) c.args.nodes.now c.index-nodes-node.result.height c.as_slice-kid-items.result.now c.loop-kid.kid-index c.kid-item.result c.kid-item.is test [] [] c.args.steps.now c.loop-kid.steps c.visit.new.steps c.loop-kid.invariant.1 (omega (arith, c.tick.ensures.counted, c.visit.ensures.cost, s, same)) in
    cost_all (λ b. overlaps b c.args.q.now) c.args.nodes.now c.args.node (c.loop-kid.kid-index + 1) c.index-nodes-node.result c.as_slice-kid-items.result.now c.args.steps.now c.visit.new.steps c.requires.there c.index-nodes-node.is c.as_slice-kid-items.ensures.value (omega (arith, fits, test)) b

pub returns-in_err-visit-clause-kept : goal.returns-in_err-visit-clause-kept
returns-in_err-visit-clause-kept g t c = let e = c.visit.ensures.kept in let i = c.loop-kid.invariant.0 in (i.0 ++ e.0, e.1 ∙ ap (λ xs. xs ++ e.0) i.1 ∙ append_assoc c.args.into.now.items i.0 e.0)

pub loop-kid-preserved : goal.loop-kid-preserved
loop-kid-preserved g t c =
    let test = c.loop-kid-test.true in
    let q : BoxOf → Bool = λ b. overlaps b c.args.q.now in
    let ps = c.args.nodes.now in
    let h = c.index-nodes-node.result.height in
    let kids = c.as_slice-kid-items.result.now in
    let i = c.loop-kid.kid-index in
    let k = c.kid-item.result in
    elim c.if-overlaps.branch [
      | then-overlaps+then-part-eq0+in_ok-push w ↦ (
        found_leaf q ps h kids i c.kid-item.result c.kid-item.is test c.args.into.now.items c.loop-kid.into.items c.if-overlaps.into.items c.loop-kid.invariant.0 (ap (λ v. v.items) w.into-is ∙ w.in_ok-push.ensures.items ∙ ap (λ n. c.loop-kid.into.items ++ n ∷ []) c.number-number.ensures.target) w.if-part-eq0.true (sym c.overlaps.ensures.test ∙ w.if-overlaps.true),
        cost_more q ps h kids i c.kid-item.result c.kid-item.is test [] [] c.args.steps.now c.loop-kid.steps c.if-overlaps.steps c.loop-kid.invariant.1 (omega (arith, w.steps-is, c.tick.ensures.counted)),
      )
      | then-overlaps+else-part-eq0+in_ok-visit w ↦
          let d = down c.requires.tree.0 ps c.requires.tree.1 c.args.node i c.index-nodes-node.result kids c.kid-item.result c.requires.there c.index-nodes-node.is c.as_slice-kid-items.ensures.value test c.kid-item.is w.if-part-eq0.false in
          let s = step_down q 1 (λ _. 0) ps h (height_at ps (target k.1)) k d.1 (sym c.overlaps.ensures.test ∙ w.if-overlaps.true) in
          let same = ap (λ n. walk_sum q 1 (λ _. 0) ps (height_at ps n) n) c.number-number.ensures.target in
          let f = w.in_ok-visit.ensures.found in (
            found_down q ps h kids i c.kid-item.result c.kid-item.is test c.args.into.now.items c.loop-kid.into.items c.if-overlaps.into.items c.loop-kid.invariant.0 d.1 (sym c.overlaps.ensures.test ∙ w.if-overlaps.true) (f.0, ap (λ v. v.items) w.into-is ∙ f.1, λ e. f.2 e ∙ ap (λ n. walk_sum q 0 (λ x. e x.1) ps (height_at ps n) n) c.number-number.ensures.target),
            cost_more q ps h kids i c.kid-item.result c.kid-item.is test [] [] c.args.steps.now c.loop-kid.steps c.if-overlaps.steps c.loop-kid.invariant.1 (omega (arith, w.steps-is, c.tick.ensures.counted, w.in_ok-visit.ensures.cost, s, same)),
          )
      | else-overlaps w ↦ (
        rw w.into-is (found_skip q ps h kids i c.kid-item.result c.kid-item.is test c.args.into.now.items c.loop-kid.into.items c.loop-kid.invariant.0 (sym c.overlaps.ensures.test ∙ w.if-overlaps.false)),
        cost_more q ps h kids i c.kid-item.result c.kid-item.is test [] [] c.args.steps.now c.loop-kid.steps c.if-overlaps.steps c.loop-kid.invariant.1 (omega (arith, w.steps-is, c.tick.ensures.counted)),
      )
    ]

pub returns-clause-found : goal.returns-clause-found
returns-clause-found g t c = found_all (λ b. overlaps b c.args.q.now) c.args.nodes.now c.args.node c.loop-kid.kid-index c.index-nodes-node.result c.as_slice-kid-items.result.now c.args.into.now.items c.loop-kid.into.items c.requires.there c.index-nodes-node.is c.as_slice-kid-items.ensures.value c.loop-kid-test.false c.loop-kid.invariant.0

pub returns-clause-cost : goal.returns-clause-cost
returns-clause-cost g t c = cost_all (λ b. overlaps b c.args.q.now) c.args.nodes.now c.args.node c.loop-kid.kid-index c.index-nodes-node.result c.as_slice-kid-items.result.now c.args.steps.now c.loop-kid.steps c.requires.there c.index-nodes-node.is c.as_slice-kid-items.ensures.value (let i = c.loop-kid.auto.kid-index-end in omega (arith, c.as_slice-kid-items.ensures.fits, i)) c.loop-kid.invariant.1
