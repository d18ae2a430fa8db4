use Rattle.mob_cells.proofs.Changed.{changes_are_cuts}
use Rattle.mob_cells.proofs.laws.changes_are_cuts.Goals as goal

pub returns : goal.returns
returns c = record { cuts = changes_are_cuts }
