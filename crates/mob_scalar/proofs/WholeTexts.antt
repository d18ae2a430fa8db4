-- Texts of moments and bools with blanks at both ends are read exactly.
use Rattle.std.{specs.Char.{is_ascii_alphabetic}, proofs.Common.{◌≡◌, ℕ, ℤ, [], ◌∷◌, ◌++◌, Bool, true, Some, None, refl, sym, subst, ◌∙◌, rules}}
use Rattle.mob_scalar.{specs.Calendar.{date, fixed, civil_of, is_civil}, specs.CalendarReaders.{fixed_at}, specs.Moment.{moment, time, stamp_of, is_in_years}}
use Rattle.mob_scalar.{specs.MomentReaders.{moment_at, time_at, clock_at, two_digits_below_at, gap_at}, specs.Moments.{fitting_instant, moment_value, moment_value_at}}
use Rattle.mob_scalar.{specs.Truth.{truth, truth_at, is_truth, is_word_true}, proofs.Closing.{some_blank}, proofs.MomentExact.{Closes, moment_exact, moment_on, fixed_byte, nothing_closes}}
use Rattle.mob_language.{specs.Language.{Text, Maybe, Where, ManyOf, AreAll, is_blank, within_blanks, is_digit}, specs.Readers.{within_blanks_at}}
use Rattle.mob_language.proofs.Exact.{Exact, Stops, means_exact, where_exact, many_exact, many_again}
use Rattle.mob_language.proofs.Heads.{NoHead, Apart, HasByte, IsEnd, means_head, where_head, many_head, byte_head, means_byte, then_byte, where_byte, within_exact, blanks_stop}
use Rattle.mob_numeral.{specs.NumberReaders.{digits_at}, specs.Blanks.{some_blanks_at}}

-- ---- moments

digit_blank : Apart is_digit is_blank
digit_blank c e = search rules

date_byte : HasByte date
date_byte = where_byte is_civil (means_byte civil_of (then_byte _ (fixed_byte 3)))

-- a moment begins with a digit
pub moment_head : (test : ℕ → Bool) → Apart is_digit test → NoHead moment test
moment_head test d = where_head (means_head (byte_head (Maybe time) date_head date_byte))
  where
    year_head : NoHead (fixed 4) test
    year_head = means_head (where_head (means_head (where_head (many_head d))))

    date_head : NoHead date test
    date_head = where_head (means_head (byte_head _ year_head (fixed_byte 3)))

pub moment_blank : NoHead moment is_blank
moment_blank = moment_head is_blank digit_blank

pub moment_byte : HasByte moment
moment_byte = where_byte is_in_years (means_byte stamp_of (then_byte (Maybe time) date_byte))

blank_on : Apart is_blank moment_on
blank_on c e = search rules

no_clock : clock_at [] ≡ None
unfolding clock_at two_digits_below_at fixed_at digits_at
no_clock = refl

gap_to_end : (b : ℕ) (bs : Text) → AreAll is_blank (b ∷ bs) → gap_at ((b ∷ bs) ++ []) ≡ Some (tt, [])
unfolding gap_at some_blanks_at
gap_to_end b bs each = rw (many_again is_blank (b ∷ bs) [] each tt, some_blank b bs) refl

-- blanks up to the end may follow a moment
pub blanks_close : (bs : Text) → AreAll is_blank bs → Closes (bs ++ [])
unfolding time_at
blanks_close [] each = nothing_closes
blanks_close (b ∷ bs) each = record {
  stops = blank_on b each.0;
  no_time = rw (gap_to_end b bs each, no_clock) refl;
}

pub moment_whole : Exact (within_blanks moment) (within_blanks_at moment_at) IsEnd
moment_whole = within_exact moment_exact moment_blank moment_byte blanks_close

-- the reader of a moment with its instant, if it fits, is exact
pub moment_value_exact : (epoch : ℤ) → Exact (moment_value epoch) (moment_value_at epoch) Closes
unfolding moment_value_at
moment_value_exact epoch = means_exact (fitting_instant epoch) moment_exact

pub moment_value_blank : (epoch : ℤ) → NoHead (moment_value epoch) is_blank
moment_value_blank epoch = means_head moment_blank

pub moment_value_byte : (epoch : ℤ) → HasByte (moment_value epoch)
moment_value_byte epoch = means_byte (fitting_instant epoch) moment_byte

-- ---- bools

pub truth_exact : Exact truth truth_at (Stops is_ascii_alphabetic)
unfolding truth_at
truth_exact = means_exact is_word_true (where_exact is_truth (many_exact is_ascii_alphabetic))

blank_letter : Apart is_blank is_ascii_alphabetic
blank_letter c e = search rules

letter_blank : Apart is_ascii_alphabetic is_blank
letter_blank c e = search rules

pub truth_head : (test : ℕ → Bool) → Apart is_ascii_alphabetic test → NoHead truth test
truth_head test h = means_head (where_head (many_head h))

pub truth_byte : HasByte truth
truth_byte = means_byte is_word_true some_byte
  where
    none : is_truth [] ≡ true → ⊥
    none h = absurd cc

    some_byte : HasByte (Where is_truth (ManyOf is_ascii_alphabetic))
    some_byte text v said e = none (subst (λ (t : Text). is_truth t ≡ true) (sym said.said.is ∙ e) said.holds)

pub truth_whole : Exact (within_blanks truth) (within_blanks_at truth_at) IsEnd
truth_whole = within_exact truth_exact (truth_head is_blank letter_blank) truth_byte (blanks_stop is_ascii_alphabetic blank_letter)
