use Rattle.mob_points.proofs.PointsAgain.{point_again}
use Rattle.mob_points.proofs.laws.point_read_again.Goals as goal

pub returns : goal.returns
returns c = record { again = point_again }
