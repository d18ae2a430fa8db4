-- The texts of bools: t, true, f and false, in any letter case.
use Rattle.std.{specs.Prelude.{◌≡◌, Bool, codes, ◌||◌, cond}, specs.Char.{is_ascii_alphabetic}, specs.Str.{str_eq_ignore_ascii_case}}
use Rattle.mob_language.{specs.Language.{Text, Language, Means, Where, ManyOf, within_blanks}, specs.Readers.{TextReader, means_at, text_where, many_at}}
use Rattle.mob_numeral.specs.Verdict.{TextForm}

abbrev pub is_word_true : Text → Bool
is_word_true word = str_eq_ignore_ascii_case word (codes "t") || str_eq_ignore_ascii_case word (codes "true")

abbrev pub is_word_false : Text → Bool
is_word_false word = str_eq_ignore_ascii_case word (codes "f") || str_eq_ignore_ascii_case word (codes "false")

abbrev pub is_truth : Text → Bool
is_truth word = is_word_true word || is_word_false word

-- letters that form one of these words
abbrev pub truth : Language Bool
truth = Means is_word_true (Where is_truth (ManyOf is_ascii_alphabetic))

unfoldable pub truth_at : TextReader Bool
truth_at = means_at is_word_true (text_where is_truth (many_at is_ascii_alphabetic))

-- the printed text of a bool
abbrev pub truth_text : Bool → Text
truth_text b = cond b (codes "t") (codes "f")

-- the form of bools, with optional blanks at both ends
abbrev pub truths : TextForm Bool Bool
truths = record {
  shape = within_blanks truth;
  long = λ b. ⊥;
  large = λ b. ⊥;
  unsound = λ b. ⊥;
  means = λ b v. v ≡ b;
}
