-- The root, from its named steps.
use Rattle.std.{specs.Prelude.{◌≡◌, [], ◌∷◌, Result, refl}, proofs.Common.{ap, sym, ◌∙◌, subst}}
use Rattle.mob_ratio.{specs.Ratio.{Ratio, ◌+ℚ◌, ◌-ℚ◌, ◌*ℚ◌, ◌/ℚ◌}, specs.Sign.{root_at}}
use Rattle.mob_frac.{specs.Fits.{Fits, IsExact}, specs.Formula.{IsFormula, inner_root_parts}, proofs.PartsOfLines.{last_part}}

pub root_last : {E : Type 0} (r : Result Ratio E) (f0 f1 l u d q w s : Ratio) → (d ≡ f0 -ℚ f1) × Fits (f0 -ℚ f1) → (q ≡ f0 /ℚ d) × Fits (f0 /ℚ d) → (w ≡ u -ℚ l) × Fits (u -ℚ l) → (s ≡ w *ℚ q) × Fits (w *ℚ q) → IsExact (l +ℚ s) r → IsFormula (inner_root_parts f0 f1 l u) (root_at f0 f1 l u) r
unfolding root_at
root_last r f0 f1 l u d q w s hd hq hw hs h =
    let q' : q ≡ f0 /ℚ (f0 -ℚ f1) = hq.0 ∙ ap (λ z. f0 /ℚ z) hd.0 in
    let fq : Fits (f0 /ℚ (f0 -ℚ f1)) = subst Fits (sym hq.0 ∙ q') hq.1 in
    let s' : s ≡ (u -ℚ l) *ℚ (f0 /ℚ (f0 -ℚ f1)) = hs.0 ∙ ap (λ z. z *ℚ q) hw.0 ∙ ap (λ z. (u -ℚ l) *ℚ z) q' in
    let fs : Fits ((u -ℚ l) *ℚ (f0 /ℚ (f0 -ℚ f1))) = subst Fits (sym hs.0 ∙ s') hs.1 in
    last_part ((f0 -ℚ f1) ∷ (f0 /ℚ (f0 -ℚ f1)) ∷ (u -ℚ l) ∷ ((u -ℚ l) *ℚ (f0 /ℚ (f0 -ℚ f1))) ∷ []) (l +ℚ (u -ℚ l) *ℚ (f0 /ℚ (f0 -ℚ f1))) (l +ℚ (u -ℚ l) *ℚ (f0 /ℚ (f0 -ℚ f1))) r refl
    (hd.1, (fq, (hw.1, (fs, tt))))
    (subst (λ z. IsExact (l +ℚ z) r) s' h)
