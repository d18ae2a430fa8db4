-- The form of moments: a moment with optional blanks at both ends. Also the language of moments
-- with their instants, if these fit.
use Rattle.std.specs.Prelude.{◌≡◌, Option, ℤ}
use Rattle.mob_ratio.specs.Ratio.{Ratio}
use Rattle.mob_frac.specs.Fits.{Fits}
use Rattle.mob_language.{specs.Language.{Language, Means, within_blanks}, specs.Readers.{TextReader, means_at}}
use Rattle.mob_numeral.{specs.Fitting.{fitting}, specs.Verdict.{TextForm}}
use Rattle.mob_scalar.{specs.declared.stamp.Stamp.{Stamp}, specs.Moment.{moment, instant}, specs.MomentReaders.{moment_at}}

abbrev pub moments : ℤ → TextForm Stamp Ratio
moments epoch = record {
  shape = within_blanks moment;
  long = λ s. ⊥;
  large = λ s. ¬ Fits (instant epoch s);
  unsound = λ s. ⊥;
  means = λ s q. q ≡ instant epoch s;
}

-- the instant of a moment, if it fits
abbrev pub fitting_instant : ℤ → Stamp → Option Ratio
fitting_instant epoch s = fitting (instant epoch s)

-- the texts of moments, with their instants if these fit
abbrev pub moment_value : ℤ → Language (Option Ratio)
moment_value epoch = Means (fitting_instant epoch) moment

unfoldable pub moment_value_at : ℤ → TextReader (Option Ratio)
moment_value_at epoch = means_at (fitting_instant epoch) moment_at
