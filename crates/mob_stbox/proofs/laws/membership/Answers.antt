use Rattle.mob_stbox.{proofs.Sides.{in_area_exact}, proofs.BoxLaws.{in_box_exact}}
use Rattle.mob_stbox.proofs.laws.membership.Goals as goal

pub returns : goal.returns
returns c = record { areas = in_area_exact; boxes = in_box_exact }
