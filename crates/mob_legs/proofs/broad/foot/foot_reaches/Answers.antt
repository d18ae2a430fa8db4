use Rattle.std.proofs.Common.{sym, ◌∙◌}
use Rattle.mob_legs.{specs.Broad.{as_foot}, proofs.Broadly.{between_by}}
use Rattle.mob_legs.proofs.broad.foot.foot_reaches.Goals as goal

pub returns : goal.returns
returns c = record { value = between_by (as_foot c.args.foot.now) c.args.square.now c.in_ok-left.left c.in_ok-right.right c.in_ok-above.above c.requires.sum c.requires.square (sym c.is_on_the_way.ensures.value ∙ c.if-not-is_on_the_way.false) c.in_ok-left.ensures.value c.in_ok-right.ensures.value c.in_ok-above.ensures.value }
