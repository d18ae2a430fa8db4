use Rattle.mob_cells.proofs.TurnCells.{cells_between, cells_whole, rising_turn}
use Rattle.mob_cells.proofs.turned.kept_at.Goals as goal

pub cells_at-requires : goal.cells_at-requires
cells_at-requires g c = record { rising = rising_turn c.args.slice.now.span c.args.turning.now.turn c.args.cuts.now c.requires.cuts c.requires.inside }

pub kept_between-requires-clause-between : goal.kept_between-requires-clause-between
kept_between-requires-clause-between g c = rw (c.as_slice.ensures.value, c.in_ok-cells.ensures.cells) (cells_between c.args.slice.now.span c.args.cuts.now c.requires.sound.some)

pub kept_between-requires-clause-whole : goal.kept_between-requires-clause-whole
kept_between-requires-clause-whole g c = rw (c.as_slice.ensures.value, c.in_ok-cells.ensures.cells) (cells_whole c.args.slice.now.span c.args.cuts.now c.requires.sound.some)
