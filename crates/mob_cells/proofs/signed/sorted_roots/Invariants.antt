use Rattle.std.proofs.Common.{◌≡◌, ◌++◌, drop}
use Rattle.mob_cells.specs.Cells.{placed_roots}
use Rattle.mob_cells.proofs.signed.sorted_roots.Given as goal

abbrev pub invariant-loop-p : goal.invariant-loop-p
invariant-loop-p l = l.out.items ++ placed_roots (drop l.p-index l.placed) ≡ placed_roots l.placed
