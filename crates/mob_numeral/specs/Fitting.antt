-- Numbers that fit, as a test, and the value of a numeral if it fits.
use Rattle.std.specs.Prelude.{◌^◌, Bool, ◌&&◌, cond, nat_lt, nat_abs, Option, Some, None}
use Rattle.mob_ratio.specs.Ratio.{Ratio}
use Rattle.mob_language.{specs.Language.{Language, Means}, specs.Readers.{TextReader, means_at}}
use Rattle.mob_numeral.{specs.declared.numeral.Numeral.{Numeral}, specs.Number.{number}, specs.NumberReaders.{numeral_at}, specs.NumberValue.{numeral_value}}

-- both parts of q, in lowest terms, have at most 62 bits
unfoldable pub fits : Ratio → Bool
fits q = nat_lt (nat_abs q.num) (2 ^ 62) && nat_lt q.den (2 ^ 62)

-- q if it fits; else None
abbrev pub fitting : Ratio → Option Ratio
fitting q = cond (fits q) (Some q) None

-- the value of a numeral, if it fits
abbrev pub fitting_value : Numeral → Option Ratio
fitting_value n = fitting (numeral_value n)

-- the texts of numbers, with their values if these fit
abbrev pub number_value : Language (Option Ratio)
number_value = Means fitting_value number

unfoldable pub number_value_at : TextReader (Option Ratio)
number_value_at = means_at fitting_value numeral_at
