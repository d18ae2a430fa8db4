use Rattle.mob_cells.proofs.Changed.{changes_are}
use Rattle.mob_cells.proofs.laws.changes_are_changes.Goals as goal

pub returns : goal.returns
returns c = record { changes = changes_are }
