-- A number fits or does not, and so do the parts of a formula.
use Rattle.std.{specs.Prelude.{◌⊎◌, suc, ◌^◌, nat_abs, List, [], ◌∷◌}, proofs.Common.{inl, inr, ⊎_elim, arith}, proofs.lemmas.Bool.Decides.{leb_tells}}
use Rattle.mob_ratio.specs.Ratio.{Ratio}
use Rattle.mob_frac.{specs.Fits.{Fits}, specs.Formula.{AllFit}}

pub fits_or : (q : Ratio) → Fits q ⊎ (¬ Fits q)
fits_or q = ⊎_elim (λ m. ⊎_elim (λ n. inl (record { num_fits = omega (arith, m.1); den_fits = omega (arith, n.1) })) (λ n. inr (λ f. absurd (omega (arith, n.1, f.den_fits)))) (leb_tells (suc q.den) (2 ^ 62))) (λ m. inr (λ f. absurd (omega (arith, m.1, f.num_fits)))) (leb_tells (suc (nat_abs q.num)) (2 ^ 62))

pub all_fit_or : (parts : List Ratio) → AllFit parts ⊎ (¬ AllFit parts)
all_fit_or [] = inl tt
all_fit_or (q ∷ parts) = ⊎_elim (λ m. ⊎_elim (λ n. inl (m, n)) (λ n. inr (λ f. n f.1)) (all_fit_or parts)) (λ m. inr (λ f. m f.0)) (fits_or q)

pub fits_unless : (q : Ratio) → ¬ (¬ Fits q) → Fits q
fits_unless q h = ⊎_elim (λ f. f) (λ n. absurd (h n)) (fits_or q)
