use Rattle.mob_knn.proofs.Bounds.{approach_reaches}
use Rattle.mob_knn.proofs.gaps.laws.approaches_reach_gaps.Goals as goal

pub returns : goal.returns
returns c = record { reach = approach_reaches }
