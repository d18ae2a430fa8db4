-- The parts of the formulas, from their named numbers.
use Rattle.std.{specs.Prelude.{◌≡◌, true, ◌&&◌, List, [], ◌∷◌, ◌++◌, Result, Ok, Err, refl}, proofs.Common.{arith, ap, sym, ◌∙◌, subst}}
use Rattle.mob_ratio.{specs.Ratio.{Ratio, ◌+ℚ◌, ◌-ℚ◌, ◌*ℚ◌, ◌<ℚ◌}, specs.Order.{before}, specs.Sign.{nil}, proofs.Order.{before-lt}, proofs.Field.{not_both, le_of_eq}, proofs.QuadraticTests.{pos_by}}
use Rattle.mob_frac.{specs.Fits.{Fits, IsExact}, specs.Formula.{IsFormula, AllFit}, proofs.PartsOfLines.{last_part}}
use Rattle.mob_slice.proofs.Cuts.{all_both, all_first, all_second}
use Rattle.mob_legs.{specs.Legs.{dot_parts, cross_parts, foot_by, foot_by_parts}, specs.declared.legs.Foot.{Foot}}

pub dot_last : {E : Type 0} (r : Result Ratio E) (x y z w p q : Ratio) → (p ≡ x *ℚ y) × Fits (x *ℚ y) → (q ≡ z *ℚ w) × Fits (z *ℚ w) → IsExact (p +ℚ q) r → IsFormula (dot_parts x y z w) (x *ℚ y +ℚ z *ℚ w) r
dot_last r x y z w p q hp hq h =
    last_part ((x *ℚ y) ∷ (z *ℚ w) ∷ []) (x *ℚ y +ℚ z *ℚ w) (x *ℚ y +ℚ z *ℚ w) r refl (hp.1, (hq.1, tt)) (subst (λ g. IsExact (g +ℚ z *ℚ w) r) hp.0 (subst (λ g. IsExact (p +ℚ g) r) hq.0 h))

pub cross_last : {E : Type 0} (r : Result Ratio E) (x y z w p q : Ratio) → (p ≡ x *ℚ y) × Fits (x *ℚ y) → (q ≡ z *ℚ w) × Fits (z *ℚ w) → IsExact (p -ℚ q) r → IsFormula (cross_parts x y z w) (x *ℚ y -ℚ z *ℚ w) r
cross_last r x y z w p q hp hq h =
    last_part ((x *ℚ y) ∷ (z *ℚ w) ∷ []) (x *ℚ y -ℚ z *ℚ w) (x *ℚ y -ℚ z *ℚ w) r refl (hp.1, (hq.1, tt)) (subst (λ g. IsExact (g -ℚ z *ℚ w) r) hp.0 (subst (λ g. IsExact (p -ℚ g) r) hq.0 h))

-- if the nearest point is strictly between the ends, the segment is longer than 0
pub way_is_long : (length along beyond : Ratio) → beyond ≡ length +ℚ along → (before along nil && before nil beyond) ≡ true → length ≡ nil → ⊥
way_is_long length along beyond e h z =
    let a = before-lt along nil (grind (arith, h)) in
    let b = before-lt nil beyond (grind (arith, h)) in
    not_both nil length (pos_by length along a (subst (λ g. nil <ℚ g) e b)) (le_of_eq length nil z)

-- parts that fit, before a formula
prepend : {A E : Type 0} (xs ys : List Ratio) (v : A) (r : Result A E) → AllFit xs → IsFormula ys v r → IsFormula (xs ++ ys) v r
prepend xs ys v (Ok f) h k = (k.0, all_both xs ys h k.1)
prepend xs ys v (Err f) h k = λ all. k (all_second xs ys all)

module _ (x0 y0 x1 y1 ex ey : Ratio) where
  pub foot_unfit : (more : List Ratio) → ex ≡ x1 -ℚ x0 → ey ≡ y1 -ℚ y0 → (¬ AllFit (foot_by_parts x0 y0 ex ey)) → ¬ AllFit ((x1 -ℚ x0) ∷ (y1 -ℚ y0) ∷ (foot_by_parts x0 y0 (x1 -ℚ x0) (y1 -ℚ y0) ++ more))
  foot_unfit more hx hy h = λ all. h (subst (λ z. AllFit (foot_by_parts x0 y0 z ey)) (sym hx) (subst (λ z. AllFit (foot_by_parts x0 y0 (x1 -ℚ x0) z)) (sym hy) (all_first (foot_by_parts x0 y0 (x1 -ℚ x0) (y1 -ℚ y0)) more all.1.1)))

  pub foot_last : {A E : Type 0} (f : Foot) (more : Foot → List Ratio) (v : Foot → A) (r : Result A E) → (ex ≡ x1 -ℚ x0) × Fits (x1 -ℚ x0) → (ey ≡ y1 -ℚ y0) × Fits (y1 -ℚ y0) → (f ≡ foot_by x0 y0 ex ey) × AllFit (foot_by_parts x0 y0 ex ey) → IsFormula (more f) (v f) r
      → IsFormula ((x1 -ℚ x0) ∷ (y1 -ℚ y0) ∷ (foot_by_parts x0 y0 (x1 -ℚ x0) (y1 -ℚ y0) ++ more (foot_by x0 y0 (x1 -ℚ x0) (y1 -ℚ y0)))) (v (foot_by x0 y0 (x1 -ℚ x0) (y1 -ℚ y0))) r
  foot_last f more v r hx hy hf h =
      let g = foot_by x0 y0 (x1 -ℚ x0) (y1 -ℚ y0) in
      let e : f ≡ g = hf.0 ∙ ap (λ z. foot_by x0 y0 z ey) hx.0 ∙ ap (λ z. foot_by x0 y0 (x1 -ℚ x0) z) hy.0 in
      let fit : AllFit (foot_by_parts x0 y0 (x1 -ℚ x0) (y1 -ℚ y0)) = subst (λ z. AllFit (foot_by_parts x0 y0 (x1 -ℚ x0) z)) hy.0 (subst (λ z. AllFit (foot_by_parts x0 y0 z ey)) hx.0 hf.1) in
      prepend ((x1 -ℚ x0) ∷ (y1 -ℚ y0) ∷ foot_by_parts x0 y0 (x1 -ℚ x0) (y1 -ℚ y0)) (more g) (v g) r (hx.1, (hy.1, fit)) (subst (λ z. IsFormula (more z) (v z) r) e h)
