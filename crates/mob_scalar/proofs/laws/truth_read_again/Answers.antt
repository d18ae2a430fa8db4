use Rattle.mob_scalar.proofs.TruthAgain.{truth_again}
use Rattle.mob_scalar.proofs.laws.truth_read_again.Goals as goal

pub returns : goal.returns
returns c = record { again = truth_again }
