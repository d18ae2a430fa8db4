use Rattle.mob_cells.proofs.Changing.{spans_hold}
use Rattle.mob_cells.proofs.laws.spans_hold.Goals as goal

pub returns : goal.returns
returns c = record { spans = spans_hold }
