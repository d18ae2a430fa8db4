-- The printed text of a bool denotes that bool.
use Rattle.std.{specs.Prelude.{Ok}, proofs.Common.{Bool, true, false, refl, codes}}
use Rattle.mob_language.proofs.Heads.{within_said}
use Rattle.mob_numeral.specs.Verdict.{Lit}
use Rattle.mob_scalar.specs.Truth.{truth, truth_text, truths}

pub truth_plain : (b : Bool) → truth (truth_text b) b
truth_plain true = record { meant = codes "t"; said = record { said = record { is = refl; each = (refl, tt) }; holds = refl }; is = refl }
truth_plain false = record { meant = codes "f"; said = record { said = record { is = refl; each = (refl, tt) }; holds = refl }; is = refl }

pub truth_again : (b : Bool) → Lit truths (truth_text b) (Ok b)
truth_again b = (b, within_said (truth_text b) b (truth_plain b), (λ x. x), (λ x. x), (λ x. x), refl)
