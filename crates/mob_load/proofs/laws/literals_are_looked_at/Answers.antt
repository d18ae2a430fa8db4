use Rattle.mob_load.proofs.Values.{looked_at}
use Rattle.mob_load.proofs.laws.literals_are_looked_at.Goals as goal

pub returns : goal.returns
returns c = record { once = looked_at }
