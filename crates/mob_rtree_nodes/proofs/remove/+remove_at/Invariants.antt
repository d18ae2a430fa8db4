use Rattle.std.{specs.Prelude.{sum_by}, specs.Vec.{vec_capacity}, proofs.Common.{◌≡◌, take}}
use Rattle.mob_stbox.specs.Boxes.{contains}
use Rattle.mob_rtree_nodes.{specs.Tree.{IsFree, height_at, kids_at, step_sum}, specs.Removes.{hit}}
use Rattle.mob_rtree_nodes.proofs.remove.+remove_at.Given as goal

abbrev pub decreases-remove_at : goal.decreases-remove_at
decreases-remove_at l = height_at l.nodes.now.items l.node

abbrev pub invariant-loop-slot : goal.invariant-loop-slot
invariant-loop-slot l = (l.nodes ≡ l.initial.nodes) × (sum_by (step_sum (λ a. contains a l.b) 0 (hit (l.b, l.id)) l.initial.nodes.items (height_at l.initial.nodes.items l.node)) (take l.slot (kids_at l.initial.nodes.items l.node)) ≡ 0)
    × IsFree l.free.items l.nodes.items × (vec_capacity l.free ≡ vec_capacity l.initial.free)
