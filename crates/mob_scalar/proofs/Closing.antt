-- A sign with blanks before it may follow a moment.
use Rattle.std.proofs.Common.{◌≡◌, ℕ, [], ◌∷◌, ◌++◌, true, false, Some, None, refl, rules}
use Rattle.mob_language.{specs.Language.{Text, AreAll, is_blank, is_digit}, proofs.Exact.{many_again, many_stops}}
use Rattle.mob_numeral.{specs.NumberReaders.{digits_at}, specs.Blanks.{is_some_text, some_blanks_at}}
use Rattle.mob_scalar.{specs.CalendarReaders.{fixed_at}, specs.Moment.{is_t}, specs.MomentReaders.{two_digits_below_at, clock_at, t_at, gap_at, time_at}, proofs.MomentExact.{moment_on, Closes}}

-- a byte with which no moment goes on
pub record Ends (c : ℕ) : Type 0 where
  pub moment : moment_on c ≡ false
  pub blank : is_blank c ≡ false
  pub digit : is_digit c ≡ false
  pub t : is_t c ≡ false

blank_on : (c : ℕ) → is_blank c ≡ true → moment_on c ≡ false
blank_on c e = search rules

no_clock : (c : ℕ) (cs : Text) → is_digit c ≡ false → clock_at (c ∷ cs) ≡ None
unfolding clock_at two_digits_below_at fixed_at digits_at
no_clock c cs e = rw (many_stops is_digit (c ∷ cs) e) refl

no_t : (c : ℕ) (cs : Text) → is_t c ≡ false → t_at (c ∷ cs) ≡ None
unfolding t_at
no_t c cs e = rw e refl

pub some_blank : (b : ℕ) (bs : Text) → is_some_text (b ∷ bs) ≡ true
some_blank b bs = search rules

gap_of_blanks : (b : ℕ) (bs : Text) (c : ℕ) (cs : Text) → AreAll is_blank (b ∷ bs) → is_blank c ≡ false → gap_at ((b ∷ bs) ++ (c ∷ cs)) ≡ Some (tt, c ∷ cs)
unfolding gap_at some_blanks_at
gap_of_blanks b bs c cs each h = rw (many_again is_blank (b ∷ bs) (c ∷ cs) each h, some_blank b bs) refl

no_gap : (c : ℕ) (cs : Text) → is_blank c ≡ false → is_t c ≡ false → gap_at (c ∷ cs) ≡ None
unfolding gap_at some_blanks_at
no_gap c cs h k = rw (many_stops is_blank (c ∷ cs) h, no_t c cs k) refl

pub sign_closes : (bs : Text) (c : ℕ) (cs : Text) → AreAll is_blank bs → Ends c → Closes (bs ++ (c ∷ cs))
unfolding time_at
sign_closes [] c cs each h = record {
  stops = h.moment;
  no_time = rw (no_gap c cs h.blank h.t) refl;
}
sign_closes (b ∷ bs) c cs each h = record {
  stops = blank_on b each.0;
  no_time = rw (gap_of_blanks b bs c cs each h.blank, no_clock c cs h.digit) refl;
}
