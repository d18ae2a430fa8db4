use Rattle.mob_eval.proofs.Covered.{has_moving}
use Rattle.mob_eval.proofs.memory.own_covers.moving_of.Goals as goal

pub unreachable-requires : goal.unreachable-requires
unreachable-requires c = let (a, is) = has_moving c.args.value.now c.args.covers.now c.requires.covers in c.in_default.not-MovingPoint a is
