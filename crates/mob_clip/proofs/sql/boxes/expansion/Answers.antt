use Rattle.mob_clip.proofs.OwnBoxes.{expansion_outcome}
use Rattle.mob_clip.proofs.sql.boxes.expansion.Goals as goal

pub returns : goal.returns
returns c = record { outcome = expansion_outcome c.args.value.now c.args.distance.now c.box_of_value.result c.moved.result c.box_of_value.ensures.own c.moved.ensures.outcome }
