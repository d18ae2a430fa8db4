use Rattle.mob_chars.proofs.Along.{are_stuck}
use Rattle.mob_chars.proofs.laws.faults_are_stuck.Goals as goal

pub returns : goal.returns
returns c = record { stuck = are_stuck }
