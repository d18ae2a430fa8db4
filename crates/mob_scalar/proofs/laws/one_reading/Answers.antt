use Rattle.mob_scalar.proofs.OneReadings.{one_number, one_whole, one_moment, one_truth, one_epoch}
use Rattle.mob_scalar.proofs.laws.one_reading.Goals as goal

pub returns : goal.returns
returns c = record { numbers = one_number; wholes = one_whole; moments = one_moment; truths = one_truth; epochs = one_epoch }
