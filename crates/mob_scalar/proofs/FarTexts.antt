-- The text of an instant outside the years 0001 to 9999 is not a moment: it begins with a letter,
-- and a moment begins with a digit.
use Rattle.std.{specs.Prelude.{Option, Err, if◌then◌else◌}, proofs.Common.{◌≡◌, [], ◌++◌, Bool, true, false, Some, None, ℤ, refl, sym, ◌∙◌, codes}}
use Rattle.mob_ratio.specs.Ratio.{Ratio}
use Rattle.mob_language.{specs.Language.{Text, within_blanks}, specs.Readers.{within_blanks_at}}
use Rattle.mob_scalar.{specs.declared.stamp.Stamp.{Stamp}, specs.CalendarReaders.{fixed_at, date_at}, specs.Moment.{moment, is_year_second}, specs.MomentReaders.{moment_at}}
use Rattle.mob_scalar.{specs.MomentText.{HasDate, second_of, second_text, part_numerator, far_text, moment_text}, specs.Moments.{moments}, proofs.WholeTexts.{moment_whole}}
use Rattle.mob_numeral.{specs.declared.fault.ReadText.TheVariants.{NotText}, specs.NumberReaders.{digits_at}, specs.Verdict.{Lit}}

reads_none : (rest : Text) → within_blanks_at moment_at (codes "epoch+(" ++ rest) ≡ None
unfolding moment_at date_at fixed_at digits_at
reads_none rest = refl

not_moment : (rest : Text) (s : Stamp) → within_blanks moment (codes "epoch+(" ++ rest) s → ⊥
not_moment rest s said =
    let read = moment_whole.complete (codes "epoch+(" ++ rest) [] s said refl in
    none_some (s, []) (sym (reads_none (rest ++ [])) ∙ read)
  where
    none_some : (x : Stamp × Text) → ◌≡◌ {A = Option (Stamp × Text)} None (Some x) → ⊥
    none_some x e = absurd cc

pub far_not_read : (epoch : ℤ) (t : Ratio) → (HasDate epoch t → ⊥) → Lit (moments epoch) (moment_text epoch t) (Err NotText)
unfolding moment_text far_text
far_not_read epoch t far = by_test (is_year_second (second_of epoch t)) refl
  where
    by_test : (b : Bool) → is_year_second (second_of epoch t) ≡ b → (s : Stamp) → within_blanks moment (if b then second_text (second_of epoch t) (part_numerator t) t.den else far_text t) s → ⊥
    by_test true e s said = absurd (far e)
    by_test false e s said = not_moment _ s said
