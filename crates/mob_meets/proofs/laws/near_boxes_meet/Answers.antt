use Rattle.mob_meets.proofs.Near.{boxes_second, boxes_first}
use Rattle.mob_meets.proofs.laws.near_boxes_meet.Goals as goal

pub returns : goal.returns
returns c = record { second = boxes_second; first = boxes_first }
