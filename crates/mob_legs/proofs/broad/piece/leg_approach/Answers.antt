use Rattle.mob_legs.{specs.Broad.{as_leg, as_foot}, proofs.Broadly.{none_between}}
use Rattle.mob_legs.proofs.broad.piece.leg_approach.Goals as goal

pub returns : goal.returns
returns c = record { value = none_between (as_leg c.args.leg.now) (as_foot c.in_ok-foot.foot) c.in_ok-square.field-0 c.smaller_square.result c.in_ok-foot.ensures.foot c.in_ok-square.ensures.value c.in-None.is c.smaller_square.ensures.value }
