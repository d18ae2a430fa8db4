-- The number that a numeral denotes.
use Rattle.std.specs.Prelude.{◌≡◌, ℕ, ◌+◌, ◌*◌, ◌^◌, ◌<◌, ◌≤◌, Bool, true, cond, Option, Some, None, IfSome}
use Rattle.mob_ratio.specs.Ratio.{Ratio, over}
use Rattle.mob_frac.specs.Signed.{signed}
use Rattle.mob_numeral.{specs.declared.numeral.Figures.{Figures}, specs.declared.numeral.Exponent.{Exponent}, specs.declared.numeral.Tail.{Tail}}
use Rattle.mob_numeral.{specs.declared.numeral.Tail.TheVariants.{Over, Decimal}, specs.declared.numeral.Numeral.{Numeral}, specs.Number.{count_of, is_numeral}}

abbrev pub value_in : Option Figures → ℕ
value_in None = 0
value_in (Some f) = f.value

-- the number of places by which an exponent moves the point to the right; then to the left
abbrev pub up_of : Option Exponent → ℕ
up_of None = 0
up_of (Some e) = cond e.negative 0 e.size.value

abbrev pub down_of : Option Exponent → ℕ
down_of None = 0
down_of (Some e) = cond e.negative e.size.value 0

abbrev pub value_of : Bool → Figures → Tail → Ratio
value_of negative whole (Over denominator) = over (signed negative whole.value) denominator.value
value_of negative whole (Decimal part exponent) = over
    (signed negative ((whole.value * 10 ^ count_of part + value_in part) * 10 ^ up_of exponent))
    (10 ^ (count_of part + down_of exponent))

unfoldable pub numeral_value : Numeral → Ratio
numeral_value n = value_of n.negative n.digits n.tail

-- the value of a run of digits is less than ten to the power of its length
abbrev pub IsSmall : Figures → Type 0
IsSmall f = (f.value < 10 ^ f.count) × (f.count ≤ 36)

abbrev pub IsTailSmall : Tail → Type 0
IsTailSmall (Over denominator) = IsSmall denominator
IsTailSmall (Decimal part exponent) = IfSome part IsSmall × IfSome exponent (λ e. e.size.value ≤ 18)

pub record IsBounded (n : Numeral) : Type 0 where
  pub digits : IsSmall n.digits
  pub tail : IsTailSmall n.tail
  pub there : is_numeral n ≡ true
