use Rattle.mob_meaning.proofs.Widening.{keeps_values, faults_are_narrow}
use Rattle.mob_meaning.proofs.laws.wide_changes_no_value.Goals as goal

pub returns : goal.returns
returns c = record { keeps = keeps_values; faults = faults_are_narrow }
