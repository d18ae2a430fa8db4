use Rattle.mob_cells.proofs.TurnCells.{cells_between, cells_whole, rising_turn}
use Rattle.mob_cells.proofs.turned.flags_at.Goals as goal

pub cells_at-requires : goal.cells_at-requires
cells_at-requires c = record { rising = rising_turn c.args.span.now c.args.turning.now.turn c.args.cuts.now c.requires.cuts c.requires.inside }

pub flags_between-requires-clause-between : goal.flags_between-requires-clause-between
flags_between-requires-clause-between c = rw (c.as_slice.ensures.value, c.in_ok-cells.ensures.cells) (cells_between c.args.span.now c.args.cuts.now c.lower-lower.ensures.some)

pub flags_between-requires-clause-whole : goal.flags_between-requires-clause-whole
flags_between-requires-clause-whole c = rw (c.as_slice.ensures.value, c.in_ok-cells.ensures.cells) (cells_whole c.args.span.now c.args.cuts.now c.lower-lower.ensures.some)
