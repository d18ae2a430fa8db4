use Rattle.std.proofs.Common.{drop}
use Rattle.mob_cells.{specs.Turnings.{kept_turned}, proofs.Restricting.{IsMade}}
use Rattle.mob_cells.proofs.turned.kept_between.Given as goal

abbrev pub invariant-loop-cell : goal.invariant-loop-cell
invariant-loop-cell g l = IsMade g.C.Course.value_of g.C.Course.start_of g.C.Course.end_of (kept_turned g.C.Course.value_of l.want l.turning l.slice) l.cells (drop l.cell-index l.cells) l.out.items
