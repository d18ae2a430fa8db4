use Rattle.std.{specs.Prelude.{sum_by}, proofs.Common.{◌≡◌, ℕ, ◌+◌, ◌*◌, ◌≤◌, List, ◌++◌, take}}
use Rattle.mob_stbox.specs.Boxes.{overlaps}
use Rattle.mob_rtree_nodes.specs.Tree.{height_at, step_sum}
use Rattle.mob_rtree_nodes.proofs.search.+visit.Given as goal

abbrev pub decreases-visit : goal.decreases-visit
decreases-visit g l = height_at l.nodes.now l.node

abbrev pub invariant-loop-kid : goal.invariant-loop-kid
invariant-loop-kid g l =
    ((more : List ℕ) × (l.into.items ≡ l.initial.into.items ++ more) × ((f : ℕ → ℕ) → sum_by f more ≡ sum_by (step_sum (λ b. overlaps b l.q) 0 (λ e. f e.1) l.nodes l.part.height) (take l.kid-index l.kid-items)))
    × (l.steps ≤ l.initial.steps + l.kid-index + 16 * sum_by (step_sum (λ b. overlaps b l.q) 1 (λ _. 0) l.nodes l.part.height) (take l.kid-index l.kid-items))
