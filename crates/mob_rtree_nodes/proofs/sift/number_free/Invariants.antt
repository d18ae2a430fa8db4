use Rattle.std.{specs.Prelude.{sum_by}, specs.Vec.{vec_len, vec_capacity}, proofs.Common.{◌≡◌, ℕ, ◌≤◌, take}}
use Rattle.mob_rtree_nodes.specs.Tree.{dropped_sum}
use Rattle.mob_rtree_nodes.proofs.sift.number_free.Given as goal

abbrev pub invariant-loop-node : goal.invariant-loop-node
invariant-loop-node l = ((f : ℕ → ℕ) → sum_by f l.free.items ≡ dropped_sum f 0 (take l.node l.nodes)) × (vec_len l.free ≤ l.node) × (vec_capacity l.free ≡ vec_capacity l.initial.free)
