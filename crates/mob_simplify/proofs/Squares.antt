-- A course whose velocity is in the square of a break is near the break.
use Rattle.std.{specs.Prelude.{◌≡◌, true, [], ◌∷◌, pos, refl}, proofs.Common.{ap, sym, ◌∙◌, subst}}
use Rattle.mob_ratio.{specs.Gcd.{gcd, gcd_steps}, specs.Lowest.{in_lowest_terms}, specs.Ratio.{Ratio, over, whole, ◌+ℚ◌, ◌-ℚ◌, ◌*ℚ◌, ◌/ℚ◌, ◌≤ℚ◌}, specs.Order.{before, up_to}, specs.Sign.{nil}, specs.Line.{line_at}, proofs.LineAt.{line_at-quotient}}
use Rattle.mob_ratio.{proofs.Field.{le_by, le_trans, le_of_lt}, proofs.Divide.{div-mul, sub_ne-zero, whole_ne-zero}, proofs.Order.{before-lt, before-trans, le-test, not-up_to-le}}
use Rattle.mob_ratio.{proofs.Convex.{add_le, mul_le, sub_le, square_le, le_mul_pos, le_of_mul_pos}, proofs.Ring.{at, lit, ◌⊕◌, ◌⊗◌, ◌⊖◌}, proofs.Rings.{ring_ℚ}}
use Rattle.mob_frac.specs.Fits.{ratio}
use Rattle.mob_simplify.{specs.Breaks.{off_course}, specs.Skips.{IsInCircle, has_velocity, rate, rate_east, rate_north, velocities_near}, specs.declared.breaks.Break.{Break}}
use Rattle.mob_simplify.{proofs.Convexity.{above, is_gone}, proofs.Rectangles.{bounded}}

-- ---- the square in the circle
abbrev ten : Ratio
ten = whole (pos 10)

abbrev seven : Ratio
seven = whole (pos 7)

hundred : before nil (ten *ℚ ten) ≡ true
unfolding before whole ◌*ℚ◌ over gcd gcd_steps in_lowest_terms
hundred = refl

-- 2·(7/10)² is 98/100
pub seven_tenths : (part half d : Ratio) → part ≡ ratio (pos 7) (pos 10) → half ≡ d *ℚ part → IsInCircle half d
seven_tenths part half d e h =
    let D = at 0 in let P = at 1 in let T = lit (pos 10) in let S = lit (pos 7) in
    let is : part *ℚ ten ≡ seven = ap (λ z. z *ℚ ten) e ∙ div-mul seven ten (whole_ne-zero (pos 10) (λ z. cc)) in
    let spread : (half *ℚ half +ℚ half *ℚ half) *ℚ (ten *ℚ ten) ≡ (d *ℚ d) *ℚ (seven *ℚ seven) +ℚ (d *ℚ d) *ℚ (seven *ℚ seven) =
    ap (λ z. (z *ℚ z +ℚ z *ℚ z) *ℚ (ten *ℚ ten)) h
    ∙ ring_ℚ (d ∷ part ∷ []) (((D ⊗ P) ⊗ (D ⊗ P) ⊕ (D ⊗ P) ⊗ (D ⊗ P)) ⊗ (T ⊗ T)) ((D ⊗ D) ⊗ ((P ⊗ T) ⊗ (P ⊗ T)) ⊕ (D ⊗ D) ⊗ ((P ⊗ T) ⊗ (P ⊗ T))) refl
    ∙ ap (λ z. (d *ℚ d) *ℚ (z *ℚ z) +ℚ (d *ℚ d) *ℚ (z *ℚ z)) is in
    le-test _ _
    (le_of_mul_pos (half *ℚ half +ℚ half *ℚ half) (d *ℚ d) (ten *ℚ ten) (before-lt nil (ten *ℚ ten) hundred)
    (subst (λ z. z ≤ℚ ((d *ℚ d) *ℚ (ten *ℚ ten))) (sym spread)
    (le_by nil (d *ℚ d +ℚ d *ℚ d) _ _ (add_le _ _ (square_le d) (square_le d))
    (ring_ℚ (d ∷ []) (((D ⊗ D) ⊗ (S ⊗ S) ⊕ (D ⊗ D) ⊗ (S ⊗ S)) ⊕ (D ⊗ D ⊕ D ⊗ D)) ((D ⊗ D) ⊗ (T ⊗ T) ⊕ lit (pos 0)) refl))))

pub nothing : (half d : Ratio) → half ≡ whole (pos 0) → IsInCircle half d
nothing half d e =
    let Z = lit (pos 0) in
    le-test _ _ (subst (λ z. z ≤ℚ (d *ℚ d)) (sym (ap (λ z. z *ℚ z +ℚ z *ℚ z) e ∙ ring_ℚ [] (Z ⊗ Z ⊕ Z ⊗ Z) Z refl)) (square_le d))

-- ---- one coordinate
square_within : (h e : Ratio) → e ≤ℚ h → nil ≤ℚ (h +ℚ e) → (e *ℚ e) ≤ℚ (h *ℚ h)
square_within h e a b =
    let H = at 0 in let E = at 1 in
    le_by nil ((h -ℚ e) *ℚ (h +ℚ e)) _ _ (mul_le (h -ℚ e) (h +ℚ e) (sub_le e h a) b) (ring_ℚ (h ∷ e ∷ []) (E ⊗ E ⊕ (H ⊖ E) ⊗ (H ⊕ E)) (H ⊗ H ⊕ lit (pos 0)) refl)

-- from l to u, at t between
module _ (l t u : Ratio) (first : before l t ≡ true) (last : before t u ≡ true) where
  long : before l u ≡ true
  long = before-trans l t u first last

  -- the velocity, times the time that has passed
  moved : (x0 x1 : Ratio) → line_at x0 x1 l u t ≡ x0 +ℚ rate x0 x1 (u -ℚ l) *ℚ (t -ℚ l)
  moved x0 x1 =
      let v = rate x0 x1 (u -ℚ l) in
      let whole_way : v *ℚ (u -ℚ l) ≡ x1 -ℚ x0 = div-mul (x1 -ℚ x0) (u -ℚ l) (sub_ne-zero l u (before-lt l u long)) in
      let V = at 0 in let T = at 1 in let Q = at 2 in
      line_at-quotient x0 x1 l u t long
      ∙ ap (λ z. x0 +ℚ z *ℚ ((t -ℚ l) /ℚ (u -ℚ l))) (sym whole_way)
      ∙ ap (λ z. x0 +ℚ z) (ring_ℚ (v ∷ (u -ℚ l) ∷ ((t -ℚ l) /ℚ (u -ℚ l)) ∷ []) ((V ⊗ T) ⊗ Q) (V ⊗ (Q ⊗ T)) refl)
      ∙ ap (λ z. x0 +ℚ v *ℚ z) (is_gone l u t long)

  passed : nil ≤ℚ (t -ℚ l)
  passed = le_of_lt nil (t -ℚ l) (above l t t first)

  reached : (x0 y : Ratio) → rate x0 y (t -ℚ l) *ℚ (t -ℚ l) ≡ y -ℚ x0
  reached x0 y = div-mul (y -ℚ x0) (t -ℚ l) (sub_ne-zero l t (before-lt l t first))

  module _ (h x0 x1 y : Ratio) where
    abbrev off : Ratio
    off = line_at x0 x1 l u t -ℚ y

    abbrev way : Ratio
    way = rate x0 x1 (u -ℚ l) *ℚ (t -ℚ l)

    not_beyond : up_to (rate x0 x1 (u -ℚ l)) (rate x0 (y +ℚ h) (t -ℚ l)) ≡ true → off ≤ℚ h
    not_beyond k =
        let X = at 0 in let Y = at 1 in let H = at 2 in let W = at 3 in
        let far : way ≤ℚ ((y +ℚ h) -ℚ x0) = subst (λ z. way ≤ℚ z) (reached x0 (y +ℚ h)) (le_mul_pos _ _ (t -ℚ l) passed (not-up_to-le _ _ k)) in
        subst (λ z. (z -ℚ y) ≤ℚ h) (sym (moved x0 x1))
        (le_by nil (((y +ℚ h) -ℚ x0) -ℚ way) _ _ (sub_le way ((y +ℚ h) -ℚ x0) far) (ring_ℚ (x0 ∷ y ∷ h ∷ way ∷ []) (((X ⊕ W) ⊖ Y) ⊕ (((Y ⊕ H) ⊖ X) ⊖ W)) (H ⊕ lit (pos 0)) refl))

    not_short : up_to (rate x0 (y -ℚ h) (t -ℚ l)) (rate x0 x1 (u -ℚ l)) ≡ true → nil ≤ℚ (h +ℚ off)
    not_short k =
        let X = at 0 in let Y = at 1 in let H = at 2 in let W = at 3 in
        let far : ((y -ℚ h) -ℚ x0) ≤ℚ way = subst (λ z. z ≤ℚ way) (reached x0 (y -ℚ h)) (le_mul_pos _ _ (t -ℚ l) passed (not-up_to-le _ _ k)) in
        subst (λ z. nil ≤ℚ (h +ℚ (z -ℚ y))) (sym (moved x0 x1))
        (subst (λ z. nil ≤ℚ z) (ring_ℚ (x0 ∷ y ∷ h ∷ way ∷ []) (W ⊖ ((Y ⊖ H) ⊖ X)) (H ⊕ ((X ⊕ W) ⊖ Y)) refl) (sub_le ((y -ℚ h) -ℚ x0) way far))

    off_square : up_to (rate x0 (y -ℚ h) (t -ℚ l)) (rate x0 x1 (u -ℚ l)) ≡ true → up_to (rate x0 x1 (u -ℚ l)) (rate x0 (y +ℚ h) (t -ℚ l)) ≡ true → (off *ℚ off) ≤ℚ (h *ℚ h)
    off_square a b = square_within h off (not_beyond b) (not_short a)

-- ---- both
sum_within : (a b c d : Ratio) → a ≤ℚ c → b ≤ℚ d → (a +ℚ b) ≤ℚ (c +ℚ d)
sum_within a b c d h k =
    let A = at 0 in let B = at 1 in let C = at 2 in let D = at 3 in
    le_by nil ((c -ℚ a) +ℚ (d -ℚ b)) _ _ (add_le _ _ (sub_le a c h) (sub_le b d k)) (ring_ℚ (a ∷ b ∷ c ∷ d ∷ []) ((A ⊕ B) ⊕ ((C ⊖ A) ⊕ (D ⊖ B))) ((C ⊕ D) ⊕ lit (pos 0)) refl)

pub near_by_square : (h d : Ratio) (p b n : Break) → before p.instant b.instant ≡ true → before b.instant n.instant ≡ true → IsInCircle h d → has_velocity (velocities_near h p b) (rate_east p n) (rate_north p n) ≡ true → up_to (off_course p n b) (d *ℚ d) ≡ true
near_by_square h d p b n first last inside k =
    let m = bounded (velocities_near h p b) (rate_east p n) (rate_north p n) k in
    let x = off_square p.instant b.instant n.instant first last h p.place.x n.place.x b.place.x m.west m.east in
    let y = off_square p.instant b.instant n.instant first last h p.place.y n.place.y b.place.y m.south m.north in
    le-test _ _ (le_trans _ (h *ℚ h +ℚ h *ℚ h) (d *ℚ d) (sum_within _ _ _ _ x y) (not-up_to-le _ _ inside))
