use Rattle.std.{specs.BinaryHeap.{heap_items}, proofs.Common.{rules, sym, ◌∙◌, arith}, proofs.lemmas.List.{nil_from_length}, proofs.lemmas.Result.{err_from_is_err_and}}
use Rattle.mob_list.proofs.Faults.{cause_weaker}
use Rattle.mob_slice.specs.Sides.{operand_of}
use Rattle.mob_knn.{specs.Nearest.{HasApproach, IsPassed}, specs.Steps.{IsEntry, HasUnfitPart}, proofs.Finishing.{none_found, begun_from, reached, next_state, last_state, unfit_row}}
use Rattle.mob_knn.{proofs.Known.{trips_known}, proofs.Searching.{nothing_left}, proofs.Sizes.{falls}}
use Rattle.mob_knn.proofs.search.search.Goals as goal

pub returns-in_default-clause-nearest : goal.returns-in_default-clause-nearest
returns-in_default-clause-nearest g c = none_found (trips_known c.args.tree.now.nodes c.args.tree.now.root c.args.trips.now (operand_of c.args.asked.now) c.args.area.now c.args.tree.now.entries c.requires.entries c.requires.asked) c.args.k c.new-found.result.items c.in_default.ensures.none c.new-found.ensures.items

pub taking-init : goal.taking-init
taking-init g c = (
  begun_from (trips_known c.args.tree.now.nodes c.args.tree.now.root c.args.trips.now (operand_of c.args.asked.now) c.args.area.now c.args.tree.now.entries c.requires.entries c.requires.asked) c.args.k c.args.steps.now c.in-Some.root c.zero.result (heap_items c.new-heap.result) (heap_items c.wait.new.heap) c.new-found.result.items c.requires.some (sym c.root.ensures.is ∙ c.in-Some.is) c.in-Some.ensures.under c.zero.ensures.value c.new-heap.ensures.items c.new-found.ensures.items c.in_ok-wait.ensures.more,
  c.in_ok-wait.ensures.order c.new-heap.ensures.heap_order,
)

pub advance-requires : goal.advance-requires
advance-requires g c = record { reached = reached (trips_known c.args.tree.now.nodes c.args.tree.now.root c.args.trips.now (operand_of c.args.asked.now) c.args.area.now c.args.tree.now.entries c.requires.entries c.requires.asked) c.taking.invariant.0 c.in-Some-pop.ensures.permutation (c.in-Some-pop.ensures.below_top c.taking.invariant.1) }

pub returns-in_err-advance-clause-passed : goal.returns-in_err-advance-clause-passed
returns-in_err-advance-clause-passed g c =
    let p = err_from_is_err_and c.from_residual-in_err-advance.result c.from_residual-in_err-advance.ensures.1 in
    rw (p.1, p.2)
    (cause_weaker (λ f. IsEntry c.in-Some-pop.first.what f.0 × HasUnfitPart c.args.trips.now (operand_of c.args.asked.now) f.0 f.1) (λ f. IsPassed c.args.trips.now (operand_of c.args.asked.now) c.args.k f.0 f.1)
    (λ f. unfit_row c.args.tree.now.entries c.args.trips.now (operand_of c.args.asked.now) c.args.area.now c.requires.entries c.requires.asked c.taking.invariant.0 c.in-Some-pop.ensures.permutation (c.in-Some-pop.ensures.below_top c.taking.invariant.1) f.0 f.1)
    c.in_err-advance.field-0.0 c.in_err-advance.ensures.err)

pub returns-then-len-k-clause-nearest : goal.returns-then-len-k-clause-nearest
returns-then-len-k-clause-nearest g c = (last_state (trips_known c.args.tree.now.nodes c.args.tree.now.root c.args.trips.now (operand_of c.args.asked.now) c.args.area.now c.args.tree.now.entries c.requires.entries c.requires.asked) c.taking.invariant.0 c.in-Some-pop.ensures.permutation (c.in-Some-pop.ensures.below_top c.taking.invariant.1) _ c.in_ok-advance.ensures.spread c.in_ok-advance.ensures.ok (search rules)).first

pub returns-then-len-k-clause-cost : goal.returns-then-len-k-clause-cost
returns-then-len-k-clause-cost g c = (last_state (trips_known c.args.tree.now.nodes c.args.tree.now.root c.args.trips.now (operand_of c.args.asked.now) c.args.area.now c.args.tree.now.entries c.requires.entries c.requires.asked) c.taking.invariant.0 c.in-Some-pop.ensures.permutation (c.in-Some-pop.ensures.below_top c.taking.invariant.1) _ c.in_ok-advance.ensures.spread c.in_ok-advance.ensures.ok (search rules)).cost

pub taking-smaller : goal.taking-smaller
taking-smaller g c = falls c.args.tree.now.nodes c.args.area.now (HasApproach c.args.trips.now (operand_of c.args.asked.now)) c.in-Some-pop.first (heap_items c.taking.heap) (heap_items c.pop.new.self) c.taking.found.items c.taking.steps _ c.in-Some-pop.ensures.permutation c.in_ok-advance.ensures.spread c.in_ok-advance.ensures.ok

pub taking-preserved : goal.taking-preserved
taking-preserved g c = (
  next_state (trips_known c.args.tree.now.nodes c.args.tree.now.root c.args.trips.now (operand_of c.args.asked.now) c.args.area.now c.args.tree.now.entries c.requires.entries c.requires.asked) c.taking.invariant.0 c.in-Some-pop.ensures.permutation (c.in-Some-pop.ensures.below_top c.taking.invariant.1) _ c.in_ok-advance.ensures.spread c.in_ok-advance.ensures.ok (λ e. c.if-len-k.false (search (rules, e))),
  c.in_ok-advance.ensures.order (c.in-Some-pop.ensures.heap_order c.taking.invariant.1).0,
)

pub returns-clause-nearest : goal.returns-clause-nearest
returns-clause-nearest g c = (nothing_left _ _ _ _ _ (trips_known c.args.tree.now.nodes c.args.tree.now.root c.args.trips.now (operand_of c.args.asked.now) c.args.area.now c.args.tree.now.entries c.requires.entries c.requires.asked) _ _ _ c.taking.invariant.0 (nil_from_length (heap_items c.taking.heap) (let n = c.in_default-pop.ensures.none in let o = c.taking.heap.data.ok.0 in omega (arith, n, o)))).first

pub returns-clause-cost : goal.returns-clause-cost
returns-clause-cost g c = (nothing_left _ _ _ _ _ (trips_known c.args.tree.now.nodes c.args.tree.now.root c.args.trips.now (operand_of c.args.asked.now) c.args.area.now c.args.tree.now.entries c.requires.entries c.requires.asked) _ _ _ c.taking.invariant.0 (nil_from_length (heap_items c.taking.heap) (let n = c.in_default-pop.ensures.none in let o = c.taking.heap.data.ok.0 in omega (arith, n, o)))).cost
