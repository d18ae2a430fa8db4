use Rattle.std.proofs.Common.{◌∙◌}
use Rattle.mob_frac.proofs.Twos.{gcd_rest, gcd_zero_right}
use Rattle.mob_frac.proofs.reduction.rest_gcd.Goals as goal

pub returns-then-b-eq0 : goal.returns-then-b-eq0
returns-then-b-eq0 c = record { value = gcd_zero_right c.args.a c.args.b c.if-b-eq0.true }

pub returns : goal.returns
returns c = record { value = c.binary_gcd.ensures.value ∙ gcd_rest c.args.a c.args.b }
