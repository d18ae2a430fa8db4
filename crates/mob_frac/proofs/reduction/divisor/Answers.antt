use Rattle.std.{specs.Int.{w64}, proofs.Common.{nat_abs, arith}, proofs.lemmas.Int.{to_z_pos, ints}}
use Rattle.mob_ratio.specs.Gcd.{gcd}
use Rattle.mob_frac.proofs.Reductions.{gcd_fits, common_is, common_unit, unit_common}
use Rattle.mob_frac.proofs.reduction.divisor.Goals as goal

pub returns-then-den-eq1 : goal.returns-then-den-eq1
returns-then-den-eq1 c =
    let d = c.ranges.den in
    record { value = common_unit c.args.num c.args.den (omega (arith, ints, c.if-den-eq1.true)) }

pub returns-then-num-eq1 : goal.returns-then-num-eq1
returns-then-num-eq1 c =
    let n = c.ranges.num in
    record { value = unit_common c.args.num c.args.den (omega (arith, ints, c.if-num-eq1.true)) }

pub overflow_cast-result : goal.overflow_cast-result
overflow_cast-result c =
    let e = common_is w64 w64 c.word_gcd.result c.unsigned_abs.result c.unsigned_abs-2.result c.args.num c.args.den c.ranges.num c.ranges.den c.word_gcd.ensures.value c.unsigned_abs.ensures.value c.unsigned_abs-2.ensures.value in
    rw e (gcd_fits w64 (nat_abs c.args.num) c.args.den c.ranges.den c.requires.positive)

pub returns : goal.returns
returns c =
    let e = common_is w64 w64 c.word_gcd.result c.unsigned_abs.result c.unsigned_abs-2.result c.args.num c.args.den c.ranges.num c.ranges.den c.word_gcd.ensures.value c.unsigned_abs.ensures.value c.unsigned_abs-2.ensures.value in
    record { value = rw e (to_z_pos w64 (gcd (nat_abs c.args.num) (nat_abs c.args.den)) (gcd_fits w64 (nat_abs c.args.num) c.args.den c.ranges.den c.requires.positive).sfits) }
