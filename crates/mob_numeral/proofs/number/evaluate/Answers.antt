use Rattle.std.proofs.Common.{◌≡◌, ℕ, ◌+◌, ◌*◌, ◌^◌, ◌<◌, Option, true, subst, arith}
use Rattle.mob_numeral.{specs.declared.numeral.Figures.{Figures}, specs.declared.numeral.Exponent.{Exponent}, specs.declared.numeral.Tail.{Tail}, specs.declared.numeral.Tail.TheVariants.{Decimal}}
use Rattle.mob_numeral.{specs.declared.numeral.Numeral.{Numeral}, specs.Number.{count_of, has_digits}, specs.NumberValue.{value_in, IsTailSmall, IsBounded}}
use Rattle.mob_numeral.proofs.Bounded.{small_lt, enough, joined_lt}
use Rattle.mob_numeral.proofs.number.evaluate.Goals as goal

size_lt : (n : Numeral) (part : Option Figures) (e : Option Exponent) (ten more : ℕ) → IsBounded n → n.tail ≡ Decimal part e → ten ≡ 10 ^ count_of part → more ≡ value_in part → n.digits.value * ten + more < 10 ^ 36
size_lt n part e ten more b is t m =
    rw (t, m) (joined_lt n.digits.value n.digits.count part b.digits.0 (subst IsTailSmall is b.tail).0
    (enough n.digits part e (subst (λ (x : Tail). has_digits n.digits x ≡ true) is b.there)))

pub over_product-requires-clause-num : goal.over_product-requires-clause-num
over_product-requires-clause-num c = let h = small_lt c.args.n.digits c.requires.bounded.digits in omega (arith, h)

pub overflow_mul-size : goal.overflow_mul-size
overflow_mul-size c = let h = size_lt c.args.n c.in-Decimal.part c.in-Decimal.exponent c.ten_to.result _ c.requires.bounded c.in-Decimal.is (rw (← c.places.ensures.value) c.ten_to.ensures.power) (λ i. value_in c.in-Decimal.part) in omega (arith, h)

pub overflow_add-size : goal.overflow_add-size
overflow_add-size c = let h = size_lt c.args.n c.in-Decimal.part c.in-Decimal.exponent c.ten_to.result c.part_value.result c.requires.bounded c.in-Decimal.is (rw (← c.places.ensures.value) c.ten_to.ensures.power) c.part_value.ensures.value in omega (arith, h)

pub scaled-requires-clause-size : goal.scaled-requires-clause-size
scaled-requires-clause-size c = let h = size_lt c.args.n c.in-Decimal.part c.in-Decimal.exponent c.ten_to.result c.part_value.result c.requires.bounded c.in-Decimal.is (rw (← c.places.ensures.value) c.ten_to.ensures.power) c.part_value.ensures.value in omega (arith, h)
