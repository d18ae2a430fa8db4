-- The values of the temporal types, as written.
use Rattle.std.{specs.Prelude.{nat_eq}, specs.Char.{is_ascii_alphabetic, to_ascii_lowercase}, proofs.Common.{◌≡◌, ℕ, Bool, true, false, Option, Some, refl, rules}}
use Rattle.mob_ratio.specs.Ratio.{Ratio}
use Rattle.mob_language.{specs.Language.{Text, Language, Means, is_blank, is_digit, is_number_sign, is_exponent_letter}, specs.Readers.{TextReader, means_at}, proofs.Exact.{Stops, Any, means_exact}}
use Rattle.mob_language.proofs.Heads.{Apart, means_head, means_byte}
use Rattle.mob_scalar.{specs.Truth.{truth, truth_at}, specs.Quoted.{text_value, text_value_at, is_plain}, proofs.QuotedExact.{Behind, text_value_exact, text_value_head, text_value_byte}}
use Rattle.mob_scalar.{proofs.WholeTexts.{truth_exact, truth_head, truth_byte}, proofs.BeforeSign.{truth_before_at, text_value_before_at}}
use Rattle.mob_numeral.{specs.Fitting.{number_value, number_value_at}, proofs.NumberExact.{continues}, proofs.WholeTexts.{number_head, number_value_exact, number_value_byte}}
use Rattle.mob_numeral.proofs.BeforeSign.{number_before_at}
use Rattle.mob_points.{specs.Points.{point_value, point_value_at}, proofs.PointsExact.{point_value_exact, point_value_head, point_value_byte}}
use Rattle.mob_written.specs.ValueText.{IsValueText, begins_no_value}

abbrev pub some_value : {B : Type 0} → B → Option B
some_value v = Some v

-- the type has every value of its base type
abbrev pub any_value : {B : Type 0} → B → Bool
any_value v = true

-- the values of a tbool
abbrev pub truth_value : Language (Option Bool)
truth_value = Means some_value truth

unfoldable pub truth_value_at : TextReader (Option Bool)
truth_value_at = means_at some_value truth_at

abbrev pub truth_follows : Text → Type 0
truth_follows rest = Stops is_ascii_alphabetic rest

letters_apart : Apart is_ascii_alphabetic begins_no_value
letters_apart c e = search rules

pub truth_values : IsValueText truth_value truth_value_at truth_follows
unfolding truth_value_at
truth_values = record {
  exact = means_exact some_value truth_exact;
  before_at = truth_before_at;
  well_begun = means_head (truth_head begins_no_value letters_apart);
  has_byte = means_byte some_value truth_byte;
}

abbrev pub number_follows : Text → Type 0
number_follows rest = Stops continues rest

signs_apart : Apart is_number_sign begins_no_value
signs_apart c e = search rules

digits_apart : Apart is_digit begins_no_value
digits_apart c e = search rules

exponents_apart : Apart is_exponent_letter begins_no_value
exponents_apart c e = search rules

pub number_values : IsValueText number_value number_value_at number_follows
number_values = record {
  exact = number_value_exact;
  before_at = number_before_at;
  well_begun = means_head (number_head begins_no_value signs_apart digits_apart refl refl exponents_apart);
  has_byte = number_value_byte;
}

-- the values of a tint: whole numbers
abbrev pub is_whole_number : Ratio → Bool
is_whole_number q = nat_eq q.den 1

-- the values of a ttext
abbrev pub quoted_value : Language (Option Text)
quoted_value = Means some_value text_value

unfoldable pub quoted_value_at : TextReader (Option Text)
quoted_value_at = means_at some_value text_value_at

plain_apart : (c : ℕ) → is_plain c ≡ true → is_blank c ≡ false → begins_no_value c ≡ false
plain_apart c e h = search rules

pub quoted_values : IsValueText quoted_value quoted_value_at Behind
unfolding quoted_value_at
quoted_values = record {
  exact = means_exact some_value text_value_exact;
  before_at = text_value_before_at;
  well_begun = means_head (text_value_head begins_no_value refl plain_apart);
  has_byte = means_byte some_value text_value_byte;
}

-- the values of a tgeompoint: points, each with or without SRID=0; before it
letter_s : (c : ℕ) → to_ascii_lowercase c ≡ 115 → begins_no_value c ≡ false
letter_s c e = search rules

letter_p : (c : ℕ) → to_ascii_lowercase c ≡ 112 → begins_no_value c ≡ false
letter_p c e = search rules

pub point_values : IsValueText point_value point_value_at Any
point_values = record {
  exact = point_value_exact;
  before_at = λ text rest u said. tt;
  well_begun = point_value_head begins_no_value letter_s letter_p;
  has_byte = point_value_byte;
}
