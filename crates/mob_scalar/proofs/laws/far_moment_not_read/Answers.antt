use Rattle.mob_scalar.proofs.FarTexts.{far_not_read}
use Rattle.mob_scalar.proofs.laws.far_moment_not_read.Goals as goal

pub returns : goal.returns
returns c = record { not_read = far_not_read }
