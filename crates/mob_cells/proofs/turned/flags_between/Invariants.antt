use Rattle.std.proofs.Common.{drop, Some}
use Rattle.mob_slice.specs.Operands.{steady_value, steady_limit}
use Rattle.mob_cells.{specs.Turnings.{turning_at}, proofs.Restricting.{IsMade}}
use Rattle.mob_cells.proofs.turned.flags_between.Given as goal

abbrev pub invariant-loop-cell : goal.invariant-loop-cell
invariant-loop-cell l = IsMade steady_value steady_limit steady_limit (λ t. Some (turning_at l.span l.turning t)) l.cells (drop l.cell-index l.cells) l.out.items
