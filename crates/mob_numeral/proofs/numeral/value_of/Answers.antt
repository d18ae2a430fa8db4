use Rattle.std.{specs.Str.Parse.{digits_value}, proofs.Common.{◌≡◌, length, get_or, take, arith, rules}}
use Rattle.mob_numeral.proofs.Digits.{front_lt, front_more, figure_at, digit_range}
use Rattle.mob_numeral.proofs.numeral.value_of.Goals as goal

pub overflow_mul-value : goal.overflow_mul-value
overflow_mul-value c =
    let h = front_lt c.args.digits.now c.loop-c.c-index 36 c.requires.all (omega arith) in
    let v : c.loop-c.value ≡ digits_value 10 (take c.loop-c.c-index c.args.digits.now) = c.loop-c.invariant in
    omega (arith, h, v)

pub overflow_sub-value : goal.overflow_sub-value
overflow_sub-value c =
    let h = digit_range (get_or c.args.digits.now c.loop-c.c-index 0) (figure_at c.args.digits.now c.loop-c.c-index c.requires.all (omega arith)) in
    omega (arith, h)

pub overflow_add-value : goal.overflow_add-value
overflow_add-value c =
    let h = front_lt c.args.digits.now c.loop-c.c-index 36 c.requires.all (omega arith) in
    let v : c.loop-c.value ≡ digits_value 10 (take c.loop-c.c-index c.args.digits.now) = c.loop-c.invariant in
    let k = digit_range (get_or c.args.digits.now c.loop-c.c-index 0) (figure_at c.args.digits.now c.loop-c.c-index c.requires.all (omega arith)) in
    omega (arith, h, v, k)

pub loop-c-preserved : goal.loop-c-preserved
loop-c-preserved c =
    let h = front_more c.args.digits.now c.loop-c.c-index c.requires.all (omega arith) in
    let v : c.loop-c.value ≡ digits_value 10 (take c.loop-c.c-index c.args.digits.now) = c.loop-c.invariant in
    rw (h, ← v) (search rules)

pub returns-clause-bound : goal.returns-clause-bound
returns-clause-bound c =
    let h = front_lt c.args.digits.now c.loop-c.c-index (length c.args.digits.now) c.requires.all (omega arith) in
    let v : c.loop-c.value ≡ digits_value 10 (take c.loop-c.c-index c.args.digits.now) = c.loop-c.invariant in
    omega (arith, h, v)
