-- The texts of numbers, and the numeral that each denotes.
use Rattle.std.specs.Prelude.{ℕ, ◌+◌, codes, Bool, false, ◌&&◌, nat_le, nat_lt, nat_eq, Option, Some, None}
use Rattle.mob_language.specs.Language.{Language, ◌▷◌, ◌∣◌, Maybe, Means, Where, OneOf, behind, is_number_sign, is_exponent_letter}
use Rattle.mob_numeral.{specs.declared.numeral.Figures.{Figures}, specs.declared.numeral.Exponent.{Exponent}, specs.declared.numeral.Tail.{Tail}}
use Rattle.mob_numeral.{specs.declared.numeral.Tail.TheVariants.{Over, Decimal}, specs.declared.numeral.Numeral.{Numeral}, specs.Figures.{digits}}

abbrev pub is_minus : Option ℕ → Bool
is_minus None = false
is_minus (Some c) = nat_eq c 45

-- a plus, a minus or nothing
abbrev pub number_sign : Language Bool
number_sign = Means is_minus (Maybe (OneOf is_number_sign))

abbrev pub is_power : Exponent → Bool
is_power e = nat_lt 0 e.size.count && nat_le e.size.value 18

abbrev pub exponent_of : Bool × Figures → Exponent
exponent_of v = record { negative = v.0; size = v.1 }

-- a sign and digits
abbrev pub power : Language Exponent
power = Where is_power (Means exponent_of (number_sign ▷ digits))

-- "e" in either case, and a power
abbrev pub exponent : Language Exponent
exponent = Means (λ (v : ℕ × Exponent). v.1) (OneOf is_exponent_letter ▷ power)

abbrev pub decimal_of : Option Figures × Option Exponent → Tail
decimal_of v = Decimal v.0 v.1

-- a slash and digits; or a point and digits, and an exponent
abbrev pub tail : Language Tail
tail = Means Over (behind (codes "/") digits) ∣ Means decimal_of (Maybe (behind (codes ".") digits) ▷ Maybe exponent)

abbrev pub count_of : Option Figures → ℕ
count_of None = 0
count_of (Some f) = f.count

abbrev pub has_digits : Figures → Tail → Bool
has_digits whole (Over denominator) = nat_lt 0 whole.count && nat_lt 0 denominator.value
has_digits whole (Decimal part raised) = nat_lt 0 (whole.count + count_of part) && nat_le (whole.count + count_of part) 36

abbrev pub is_numeral : Numeral → Bool
is_numeral n = has_digits n.digits n.tail

abbrev pub numeral_of : Bool × (Figures × Tail) → Numeral
numeral_of v = record { negative = v.0; digits = v.1.0; tail = v.1.1 }

abbrev pub number : Language Numeral
number = Where is_numeral (Means numeral_of (number_sign ▷ digits ▷ tail))
