use Rattle.std.proofs.Common.{[]}
use Rattle.mob_eval.{specs.Views.{scene_of}, proofs.Recalled.{two_operands}}
use Rattle.mob_clip.proofs.OwnBoxes.{overlap_is}
use Rattle.mob_eval.proofs.memory.own_box.overlap_with.Goals as goal

pub returns-in-len2 : goal.returns-in-len2
returns-in-len2 g c =
    record { value = overlap_is c.args.left.now c.args.right.now c.box_with-one.result c.box_with-other.result c.overlap_of.result c.box_with-one.ensures.own c.box_with-other.ensures.own c.overlap_of.ensures.value }

pub box_with-one-requires : goal.box_with-one-requires
box_with-one-requires g c =
    let two = two_operands g.K.Remembering.recollection (scene_of c.args.view.now) c.args.operands.now c.one-item.result c.other-item.result c.args.left.now c.args.right.now [] c.in-len2.len_at_least c.one-item.is c.other-item.is c.requires.fits c.requires.given in
    record { fits = two.fits; value = two.value }

pub box_with-other-requires : goal.box_with-other-requires
box_with-other-requires g c =
    let two = two_operands g.K.Remembering.recollection (scene_of c.args.view.now) c.args.operands.now c.one-item.result c.other-item.result c.args.left.now c.args.right.now [] c.in-len2.len_at_least c.one-item.is c.other-item.is c.requires.fits c.requires.given in
    record { fits = two.fits_too; value = two.value_too }
