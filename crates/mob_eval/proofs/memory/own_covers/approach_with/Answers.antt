use Rattle.std.proofs.Common.{[], arith}
use Rattle.mob_eval.{specs.Views.{scene_of}, proofs.Recalled.{two_operands}}
use Rattle.mob_eval.proofs.memory.own_covers.approach_with.Goals as goal

pub covers_with-over_left-requires : goal.covers_with-over_left-requires
covers_with-over_left-requires g c =
    let two = two_operands g.K.Remembering.recollection (scene_of c.args.view.now) c.args.operands.now c.one-item.result c.other-item.result c.args.left.now c.args.right.now [] (omega (arith, c.in-len2.len_at_least)) c.one-item.is c.other-item.is c.requires.fits c.requires.given in
    record { fits = two.fits; value = two.value }

pub covers_with-over_right-requires : goal.covers_with-over_right-requires
covers_with-over_right-requires g c =
    let two = two_operands g.K.Remembering.recollection (scene_of c.args.view.now) c.args.operands.now c.one-item.result c.other-item.result c.args.left.now c.args.right.now [] (omega (arith, c.in-len2.len_at_least)) c.one-item.is c.other-item.is c.requires.fits c.requires.given in
    record { fits = two.fits_too; value = two.value_too }
