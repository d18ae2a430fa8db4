use Rattle.mob_clip.proofs.OwnBoxes.{overlap_is}
use Rattle.mob_clip.proofs.sql.boxes.overlap.Goals as goal

pub returns : goal.returns
returns c = record { value = overlap_is c.args.left.now c.args.right.now c.box_of_value.result c.box_of_value-2.result c.overlap_of.result c.box_of_value.ensures.own c.box_of_value-2.ensures.own c.overlap_of.ensures.value }
