-- The readers of the languages of numbers.
use Rattle.std.specs.Prelude.{ℕ, codes, Bool}
use Rattle.mob_language.{specs.Language.{is_digit, is_number_sign, is_exponent_letter}, specs.Readers.{TextReader, then_at, or_at, maybe_at, means_at, text_where, one_at, many_at, behind_at}}
use Rattle.mob_numeral.{specs.declared.numeral.Figures.{Figures}, specs.declared.numeral.Exponent.{Exponent}, specs.declared.numeral.Tail.{Tail}, specs.declared.numeral.Tail.TheVariants.{Over}}
use Rattle.mob_numeral.{specs.declared.numeral.Numeral.{Numeral}, specs.Figures.{are_few_digits, figures}, specs.Number.{is_minus, is_power, exponent_of, decimal_of, is_numeral, numeral_of}}

unfoldable pub digits_at : TextReader Figures
digits_at = means_at figures (text_where are_few_digits (many_at is_digit))

unfoldable pub sign_at : TextReader Bool
sign_at = means_at is_minus (maybe_at (one_at is_number_sign))

unfoldable pub power_at : TextReader Exponent
power_at = text_where is_power (means_at exponent_of (then_at sign_at digits_at))

unfoldable pub exponent_at : TextReader Exponent
exponent_at = means_at (λ (v : ℕ × Exponent). v.1) (then_at (one_at is_exponent_letter) power_at)

unfoldable pub over_at : TextReader Tail
over_at = means_at Over (behind_at (codes "/") digits_at)

unfoldable pub point_at : TextReader Figures
point_at = behind_at (codes ".") digits_at

unfoldable pub decimal_at : TextReader Tail
decimal_at = means_at decimal_of (then_at (maybe_at point_at) (maybe_at exponent_at))

unfoldable pub tail_at : TextReader Tail
tail_at = or_at over_at decimal_at

unfoldable pub numeral_at : TextReader Numeral
numeral_at = text_where is_numeral (means_at numeral_of (then_at sign_at (then_at digits_at tail_at)))
