use Rattle.mob_load.proofs.Checkpoints.{looked_at_checkpoints}
use Rattle.mob_load.proofs.order_laws.checkpoints_are_looked_at.Goals as goal

pub returns : goal.returns
returns c = record { once = looked_at_checkpoints }
