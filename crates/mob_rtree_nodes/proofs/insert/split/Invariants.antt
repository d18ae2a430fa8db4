use Rattle.std.{specs.Prelude.{sum_by}, proofs.Common.{◌≡◌, ℕ, ◌+◌}}
use Rattle.arrayvec.specs.ArrayVec.{array_vec_len}
use Rattle.mob_rtree_nodes.specs.Tree.{Kid}
use Rattle.mob_rtree_nodes.proofs.insert.split.Given as goal

abbrev pub invariant-loop-moved : goal.invariant-loop-moved
invariant-loop-moved l =
    (array_vec_len l.kids + l.moved ≡ 16) × (array_vec_len l.second ≡ l.moved)
    × ((f : Kid → ℕ) → sum_by f l.kids.items + sum_by f l.second.items ≡ sum_by f l.initial.kids.items)
