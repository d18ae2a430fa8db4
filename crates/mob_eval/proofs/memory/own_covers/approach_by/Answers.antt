use Rattle.mob_eval.proofs.Covered.{approach_is, approach_fault}
use Rattle.mob_eval.proofs.memory.own_covers.approach_by.Goals as goal

pub returns-in-Ok : goal.returns-in-Ok
returns-in-Ok c =
    record { outcome = approach_is c.args.mode c.args.left.now c.args.right.now c.plain_number.result c.moving_of-a.result.now c.moving_of-b.result.now c.in-Wide.is c.moving_of-a.ensures.moving c.moving_of-b.ensures.moving (c.in-Ok.square, c.in-Ok.ensures.value, c.plain_number.ensures.value) c.in-Ok.ensures.first }

pub returns-in-Err : goal.returns-in-Err
returns-in-Err c =
    record { outcome = approach_fault c.args.mode c.args.left.now c.args.right.now c.moving_of-a.result.now c.moving_of-b.result.now c.in-Err.fault c.in-Wide.is c.moving_of-a.ensures.moving c.moving_of-b.ensures.moving c.in-Err.ensures.first }
