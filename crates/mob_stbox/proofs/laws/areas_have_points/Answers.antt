use Rattle.mob_stbox.proofs.Sides.{area_has_point}
use Rattle.mob_stbox.proofs.laws.areas_have_points.Goals as goal

pub returns : goal.returns
returns c = record { exact = area_has_point }
