use Rattle.std.proofs.Common.{subst, sym, Some}
use Rattle.mob_tile_run.{specs.TileParts.{IsSplitFault}, proofs.Tiling.{split_fault}}
use Rattle.mob_tile_run.proofs.parts.split_row.Goals as goal

pub returns-in-Err : goal.returns-in-Err
returns-in-Err c = record { split = rw c.in-Some.is (subst (IsSplitFault c.args.grid.now (Some c.in-Some.trip) c.args.row) (sym c.row_fault.ensures.same) (split_fault (Unit {0}) c.args.grid.now c.in-Some.trip c.args.row c.in-Err.fault c.in-Err.ensures.refusals)) }
