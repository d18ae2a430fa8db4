use Rattle.std.proofs.lemmas.Result.{IfOk-weaker}
use Rattle.mob_slice.specs.Sides.{operand_of}
use Rattle.mob_knn.proofs.Scanning.{apart_out, far_out}
use Rattle.mob_knn.proofs.scan.is_out.Goals as goal

pub returns-in-Apart : goal.returns-in-Apart
returns-in-Apart c = record { out = λ b m i. apart_out (operand_of c.args.asked.now) c.args.area.now c.args.trip.now c.box_of.result c.requires.asked c.box_of.ensures.least c.args.k c.args.best.now c.in-Apart.ensures.value m i }

pub returns-in-AtLeast : goal.returns-in-AtLeast
returns-in-AtLeast c =
    record { out = IfOk-weaker c.are_all_below.result _ _ (λ b e h m i. far_out (operand_of c.args.asked.now) c.args.area.now c.args.trip.now c.box_of.result c.requires.asked c.box_of.ensures.least c.args.k c.args.best.now c.in-AtLeast.least c.in-AtLeast.ensures.value (rw c.of-bound.ensures.value at (e h)) m i) c.are_all_below.ensures.below }
