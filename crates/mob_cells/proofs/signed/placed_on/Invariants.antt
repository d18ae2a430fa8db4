use Rattle.std.proofs.Common.{drop}
use Rattle.mob_cells.proofs.Placing.{IsPlacing}
use Rattle.mob_cells.proofs.signed.placed_on.Given as goal

abbrev pub invariant-loop-ends : goal.invariant-loop-ends
invariant-loop-ends l = IsPlacing l.span l.functions (drop l.ends-index l.functions) l.placed.items
