use Rattle.mob_near.proofs.OneApproach.{approach_once}
use Rattle.mob_near.proofs.laws.one_approach.Goals as goal

pub returns : goal.returns
returns c = record { one = approach_once }
