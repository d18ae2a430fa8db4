use Rattle.mob_meets.proofs.Near.{near_second, near_first}
use Rattle.mob_meets.proofs.laws.near_points_share_areas.Goals as goal

pub returns : goal.returns
returns c = record { second = near_second; first = near_first }
