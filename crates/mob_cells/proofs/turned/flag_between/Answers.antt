use Rattle.mob_cells.proofs.TurnCells.{flag_is}
use Rattle.mob_cells.proofs.turned.flag_between.Goals as goal

pub returns : goal.returns
returns c = record { flag = flag_is c.args.span.now c.args.turning.now c.args.cuts.now c.args.cell.now c.turned_on-value.result c.lower.ensures.some c.requires.cuts c.requires.cell c.turned_on-value.ensures.value }
