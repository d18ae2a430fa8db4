-- A text has at most one reading as a number, as an int, as a moment, as a bool and as an epoch.
use Rattle.std.proofs.Common.{ℤ, sym, ◌∙◌, refl}
use Rattle.mob_language.proofs.Exact.{one_value}
use Rattle.mob_numeral.{specs.Numbers.{numbers, whole_numbers}, specs.Verdict.{HasOneReading}, proofs.WholeTexts.{number_whole}, proofs.Settled.{settled}}
use Rattle.mob_scalar.{specs.Moments.{moments}, specs.Epochs.{epochs}, specs.Truth.{truths}, proofs.WholeTexts.{moment_whole, truth_whole}, proofs.MomentExact.{date_exact}}

pub one_number : HasOneReading numbers
one_number text = settled numbers text (one_value number_whole refl text) (λ s v w a b. a ∙ sym b)

pub one_whole : HasOneReading whole_numbers
one_whole text = settled whole_numbers text (one_value number_whole refl text) (λ s v w a b. a ∙ sym b)

pub one_moment : (epoch : ℤ) → HasOneReading (moments epoch)
one_moment epoch text = settled (moments epoch) text (one_value moment_whole refl text) (λ s v w a b. a ∙ sym b)

pub one_truth : HasOneReading truths
one_truth text = settled truths text (one_value truth_whole refl text) (λ s v w a b. a ∙ sym b)

pub one_epoch : HasOneReading epochs
one_epoch text = settled epochs text (one_value date_exact tt text) (λ s v w a b. a ∙ sym b)
