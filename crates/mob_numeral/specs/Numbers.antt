-- The form of numbers: a number with optional blanks at both ends.
use Rattle.std.specs.Prelude.{◌≡◌, ◌≢◌}
use Rattle.mob_ratio.specs.Ratio.{Ratio}
use Rattle.mob_frac.specs.Fits.{Fits}
use Rattle.mob_language.specs.Language.{within_blanks}
use Rattle.mob_numeral.{specs.declared.numeral.Numeral.{Numeral}, specs.Number.{number}, specs.NumberValue.{numeral_value}, specs.Verdict.{TextForm}}

abbrev pub numbers : TextForm Numeral Ratio
numbers = record {
  shape = within_blanks number;
  long = λ n. ⊥;
  large = λ n. ¬ Fits (numeral_value n);
  unsound = λ n. ⊥;
  means = λ n q. q ≡ numeral_value n;
}

-- the form of ints: a whole number
abbrev pub whole_numbers : TextForm Numeral Ratio
whole_numbers = record {
  shape = within_blanks number;
  long = λ n. ⊥;
  large = λ n. ¬ Fits (numeral_value n);
  unsound = λ n. (numeral_value n).den ≢ 1;
  means = λ n q. q ≡ numeral_value n;
}
