-- Runs of digits.
use Rattle.std.{specs.Prelude.{length, Bool, nat_le}, specs.Str.Parse.{digits_value}}
use Rattle.mob_language.specs.Language.{Text, Language, Means, Where, ManyOf, AreAll, is_digit}
use Rattle.mob_numeral.specs.declared.numeral.Figures.{Figures}

abbrev pub AreFigures : Text → Type 0
AreFigures text = AreAll is_digit text

-- the value of the digits, and how many there are
abbrev pub figures : Text → Figures
figures text = record { value = digits_value 10 text; count = length text }

-- at most 36 digits
abbrev pub are_few_digits : Text → Bool
are_few_digits text = nat_le (length text) 36

abbrev pub digits : Language Figures
digits = Means figures (Where are_few_digits (ManyOf is_digit))
