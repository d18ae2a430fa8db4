use Rattle.mob_load.proofs.Values.{program_values}
use Rattle.mob_load.proofs.laws.literals_have_their_values.Goals as goal

pub returns : goal.returns
returns c = record { values = program_values }
