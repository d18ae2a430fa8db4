-- The test whether all parts fit is exact; and a formula after others.
use Rattle.std.{specs.Prelude.{Result, Ok, Err, nat_abs}, proofs.Common.{◌≡◌, Bool, true, false, List, [], ◌∷◌, ◌++◌, refl, subst, ◌^◌}, proofs.lemmas.Bool.{and_parts, and_from, ltb-true, lt-ltb}}
use Rattle.mob_ratio.{specs.Ratio.{Ratio}, specs.Sign.{nil}}
use Rattle.mob_frac.{specs.Fits.{Fits}, specs.Formula.{AllFit, IsFormula, square_parts}, proofs.Fitting.{all_both, all_second}}
use Rattle.mob_legs.specs.Legs.{length_squared}
use Rattle.mob_knn.specs.Gaps.{part_fits, all_fit, exact_or_nil}

fits_is : (q : Ratio) → part_fits q ≡ true → Fits q
fits_is q h = let k = and_parts _ _ h in record { num_fits = ltb-true (nat_abs q.num) (2 ^ 62) k.0; den_fits = ltb-true q.den (2 ^ 62) k.1 }

is_fits : (q : Ratio) → Fits q → part_fits q ≡ true
is_fits q h = and_from _ _ (lt-ltb (nat_abs q.num) (2 ^ 62) h.num_fits) (lt-ltb q.den (2 ^ 62) h.den_fits)

pub all_fit_is : (parts : List Ratio) → all_fit parts ≡ true → AllFit parts
all_fit_is [] h = tt
all_fit_is (q ∷ parts) h = let k = and_parts _ _ h in (fits_is q k.0, all_fit_is parts k.1)

pub is_all_fit : (parts : List Ratio) → AllFit parts → all_fit parts ≡ true
is_all_fit [] h = refl
is_all_fit (q ∷ parts) h = and_from _ _ (is_fits q h.0) (is_all_fit parts h.1)

not_all_fit : (parts : List Ratio) (b : Bool) → all_fit parts ≡ b → (AllFit parts → ⊥) → b ≡ false
not_all_fit parts true e h = absurd (h (all_fit_is parts e))
not_all_fit parts false e h = refl

pub is_not_all_fit : (parts : List Ratio) → (AllFit parts → ⊥) → all_fit parts ≡ false
is_not_all_fit parts h = not_all_fit parts (all_fit parts) refl h

pub found_exact : (parts : List Ratio) (x y : Ratio) → (y ≡ x) × AllFit parts → y ≡ exact_or_nil parts x
unfolding exact_or_nil
found_exact parts x y h = rw (is_all_fit parts h.1) h.0

pub found_none : (parts : List Ratio) (x : Ratio) → (AllFit parts → ⊥) → nil ≡ exact_or_nil parts x
unfolding exact_or_nil
found_none parts x h = rw (is_not_all_fit parts h) refl

pub behind : {E : Type 0} (p q s : List Ratio) (v : Ratio) (r : Result Ratio E) → AllFit p → AllFit q → IsFormula s v r → IsFormula (p ++ (q ++ s)) v r
behind p q s v (Ok y) h k i = (i.0, all_both p (q ++ s) h (all_both q s k i.1))
behind p q s v (Err e) h k i = λ all. i (all_second q s (all_second p (q ++ s) all))

pub behind_both : {E : Type 0} (p q : List Ratio) (gx gy x y : Ratio) (r : Result Ratio E) → (x ≡ gx) × AllFit p → (y ≡ gy) × AllFit q → IsFormula (square_parts x y) (length_squared x y) r
    → IsFormula (p ++ (q ++ square_parts gx gy)) (length_squared gx gy) r
behind_both p q gx gy x y r h k i =
    subst (λ z. IsFormula (p ++ (q ++ square_parts z gy)) (length_squared z gy) r) h.0
    (subst (λ z. IsFormula (p ++ (q ++ square_parts x z)) (length_squared x z) r) k.0 (behind p q (square_parts x y) (length_squared x y) r h.1 k.1 i))
