use Rattle.mob_operands.proofs.Causes.{everything_has_a_cause}
use Rattle.mob_operands.proofs.laws.everything_has_a_cause.Goals as goal

pub returns : goal.returns
returns c = record { cause = everything_has_a_cause }
