use Rattle.mob_scalar.proofs.MomentAgain.{moment_again}
use Rattle.mob_scalar.proofs.laws.moment_read_again.Goals as goal

pub returns : goal.returns
returns c = record { again = moment_again }
