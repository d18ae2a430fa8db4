use Rattle.std.proofs.Common.{pos_of_ne-zero}
use Rattle.mob_frac.proofs.Twos.{gcd_zero_right, gcd_zero_left, shifted}
use Rattle.mob_frac.proofs.reduction.binary_gcd.Goals as goal

pub returns-then-a-eq0 : goal.returns-then-a-eq0
returns-then-a-eq0 c = record { value = gcd_zero_left c.args.a c.args.b c.if-a-eq0.true }

pub returns-then-b-eq0 : goal.returns-then-b-eq0
returns-then-b-eq0 c = record { value = gcd_zero_right c.args.a c.args.b c.if-b-eq0.true }

pub returns : goal.returns
returns c = record { value = shifted _ _ c.min.result c.odd_part.result c.odd_part-2.result c.odd_gcd.result c.args.a c.args.b (pos_of_ne-zero c.if-b-eq0.false) c.ranges.b.fits c.odd_part.ensures.odd c.odd_part-2.ensures.odd c.odd_part.ensures.twos c.odd_part-2.ensures.twos c.odd_gcd.ensures.value c.min.ensures }
