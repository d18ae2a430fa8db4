use Rattle.mob_eval.proofs.Covered.{within_is}
use Rattle.mob_eval.proofs.memory.own_covers.within_by.Goals as goal

pub returns-in-Ok : goal.returns-in-Ok
returns-in-Ok c =
    record { outcome = within_is c.args.mode c.args.left.now c.args.right.now c.args.distance.now c.known.result c.moving_of-a.result.now c.moving_of-b.result.now c.in-Number.d c.in-Wide.is c.moving_of-a.ensures.moving c.moving_of-b.ensures.moving c.in-Number.is (c.in-Ok.near, c.in-Ok.ensures.value, c.known.ensures.value) }
