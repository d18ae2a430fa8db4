use Rattle.mob_points.proofs.OnePoint.{one_point}
use Rattle.mob_points.proofs.laws.one_point.Goals as goal

pub returns : goal.returns
returns c = record { one = one_point }
