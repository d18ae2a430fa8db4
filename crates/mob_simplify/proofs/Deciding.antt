-- A break decides for an earlier one.
use Rattle.std.{specs.Prelude.{◌≡◌, ◌≢◌, true, [], ◌∷◌, pos, refl}, proofs.Common.{ap, sym, ◌∙◌, subst}}
use Rattle.mob_ratio.{specs.Ratio.{Ratio, whole, ◌+ℚ◌, ◌-ℚ◌, ◌*ℚ◌, ◌/ℚ◌, ◌<ℚ◌, ◌≤ℚ◌}, specs.Order.{before, up_to}, specs.Sign.{nil}, specs.Quadratic.{one}, specs.Line.{line_at}, proofs.LineAt.{line_at-quotient}}
use Rattle.mob_ratio.{proofs.Field.{mul_assoc, lt_of_mul_pos}, proofs.Divide.{div-mul, sub_ne-zero, mul_cancel}, proofs.Order.{before-lt, before-trans, before-weak, le-test, not-up_to-le}}
use Rattle.mob_ratio.{proofs.Convex.{above_ne, mul_lt, sub_lt, le_of_mul_pos}, proofs.Ring.{at, lit, ◌⊕◌, ◌⊗◌, ◌⊖◌}, proofs.Rings.{ring_ℚ}}
use Rattle.mob_legs.specs.Legs.{length_squared}
use Rattle.mob_simplify.{specs.Breaks.{off_course}, specs.Skips.{DecidesFor, spare_beside}, specs.declared.breaks.Break.{Break}}
use Rattle.mob_simplify.proofs.Convexity.{above, going, gone_after, gone_until, is_gone, within_at}

-- from l on, at t, at m and to u
module _ (l t m u : Ratio) (first : before l t ≡ true) (next : before t m ≡ true) (last : before m u ≡ true) where
  to_m : before l m ≡ true
  to_m = before-trans l t m first next

  to_u : before l u ≡ true
  to_u = before-trans l m u to_m last

  -- the part of the time to m that has passed at t, and the part that is left
  abbrev gone : Ratio
  gone = (t -ℚ l) /ℚ (m -ℚ l)

  abbrev left : Ratio
  left = (m -ℚ t) /ℚ (m -ℚ l)

  some : (m -ℚ l) ≢ whole (pos 0)
  some = sub_ne-zero l m (before-lt l m to_m)

  left_is : left *ℚ (m -ℚ l) ≡ m -ℚ t
  left_is = div-mul (m -ℚ t) (m -ℚ l) some

  left_above : nil <ℚ left
  left_above =
      let W = at 0 in
      lt_of_mul_pos nil left (m -ℚ l) (above l m m to_m)
      (subst (λ z. (nil *ℚ (m -ℚ l)) <ℚ z) (sym left_is) (subst (λ z. z <ℚ (m -ℚ t)) (sym (ring_ℚ ((m -ℚ l) ∷ []) (lit (pos 0) ⊗ W) (lit (pos 0)) refl)) (sub_lt t m (before-lt t m next))))

  left_some : left ≢ whole (pos 0)
  left_some = above_ne left left_above

  both_parts : left ≡ one -ℚ gone
  both_parts =
      let G = at 0 in let W = at 1 in
      let L = at 0 in let T = at 1 in let M = at 2 in
      mul_cancel left (one -ℚ gone) (m -ℚ l) some
      (left_is
      ∙ sym (ring_ℚ (l ∷ t ∷ m ∷ []) ((M ⊖ L) ⊖ (T ⊖ L)) (M ⊖ T) refl)
      ∙ ap (λ z. (m -ℚ l) -ℚ z) (sym (is_gone l m t to_m))
      ∙ sym (ring_ℚ (gone ∷ (m -ℚ l) ∷ []) ((lit (pos 1) ⊖ G) ⊗ W) (W ⊖ G ⊗ W) refl))

  -- the part of the time to u
  joined : gone *ℚ ((m -ℚ l) /ℚ (u -ℚ l)) ≡ (t -ℚ l) /ℚ (u -ℚ l)
  joined =
      mul_cancel _ _ (u -ℚ l) (sub_ne-zero l u (before-lt l u to_u))
      (mul_assoc gone ((m -ℚ l) /ℚ (u -ℚ l)) (u -ℚ l) ∙ ap (λ z. gone *ℚ z) (is_gone l u m to_u) ∙ is_gone l m t to_m ∙ sym (is_gone l u t to_u))

  -- one coordinate of a course from x0 to z: how far it is from y at t is between how far that to
  -- x1 is, and how far it is from x1 at m
  parted : (x0 x1 y z : Ratio) → line_at x0 z l u t -ℚ y ≡ going ((line_at x0 x1 l m t -ℚ y) /ℚ left) (line_at x0 z l u m -ℚ x1) gone
  parted x0 x1 y z =
      let X = at 0 in let P = at 1 in let Y = at 2 in let Z = at 3 in let G = at 4 in let K = at 5 in
      let A = at 0 in let C = at 1 in let S = at 2 in
      let k = (m -ℚ l) /ℚ (u -ℚ l) in
      let a = (line_at x0 x1 l m t -ℚ y) /ℚ left in
      let c = line_at x0 z l u m -ℚ x1 in
      let by_parts : going a c gone ≡ (line_at x0 x1 l m t -ℚ y) +ℚ c *ℚ gone =
      ring_ℚ (a ∷ c ∷ gone ∷ []) (A ⊕ (C ⊖ A) ⊗ S) (A ⊗ (lit (pos 1) ⊖ S) ⊕ C ⊗ S) refl
      ∙ ap (λ w. a *ℚ w +ℚ c *ℚ gone) (sym both_parts)
      ∙ ap (λ w. w +ℚ c *ℚ gone) (div-mul (line_at x0 x1 l m t -ℚ y) left left_some) in
      let by_times : (line_at x0 x1 l m t -ℚ y) +ℚ c *ℚ gone ≡ ((x0 +ℚ (x1 -ℚ x0) *ℚ gone) -ℚ y) +ℚ ((x0 +ℚ (z -ℚ x0) *ℚ k) -ℚ x1) *ℚ gone =
      ap (λ w. (w -ℚ y) +ℚ c *ℚ gone) (line_at-quotient x0 x1 l m t to_m)
      ∙ ap (λ w. ((x0 +ℚ (x1 -ℚ x0) *ℚ gone) -ℚ y) +ℚ (w -ℚ x1) *ℚ gone) (line_at-quotient x0 z l u m to_u) in
      sym (by_parts ∙ by_times
      ∙ ring_ℚ (x0 ∷ x1 ∷ y ∷ z ∷ gone ∷ k ∷ []) (((X ⊕ (P ⊖ X) ⊗ G) ⊖ Y) ⊕ ((X ⊕ (Z ⊖ X) ⊗ K) ⊖ P) ⊗ G) ((X ⊕ (Z ⊖ X) ⊗ (G ⊗ K)) ⊖ Y) refl
      ∙ ap (λ w. (x0 +ℚ (z -ℚ x0) *ℚ w) -ℚ y) joined
      ∙ ap (λ w. w -ℚ y) (sym (line_at-quotient x0 z l u t to_u)))

  -- a difference that is at most d times the part left, by that part
  by_left : (d a b : Ratio) → length_squared a b ≤ℚ ((d *ℚ left) *ℚ (d *ℚ left)) → length_squared (a /ℚ left) (b /ℚ left) ≤ℚ (d *ℚ d)
  by_left d a b h =
      let A = at 0 in let B = at 1 in let W = at 2 in
      let D = at 0 in let V = at 1 in
      let x = a /ℚ left in
      let y = b /ℚ left in
      let over : length_squared x y *ℚ (left *ℚ left) ≡ length_squared a b =
      ring_ℚ (x ∷ y ∷ left ∷ []) ((A ⊗ A ⊕ B ⊗ B) ⊗ (W ⊗ W)) ((A ⊗ W) ⊗ (A ⊗ W) ⊕ (B ⊗ W) ⊗ (B ⊗ W)) refl
      ∙ ap (λ z. z *ℚ z +ℚ (y *ℚ left) *ℚ (y *ℚ left)) (div-mul a left left_some)
      ∙ ap (λ z. a *ℚ a +ℚ z *ℚ z) (div-mul b left left_some) in
      le_of_mul_pos (length_squared x y) (d *ℚ d) (left *ℚ left) (mul_lt left left left_above left_above)
      (subst (λ z. z ≤ℚ ((d *ℚ d) *ℚ (left *ℚ left))) (sym over) (subst (λ z. length_squared a b ≤ℚ z) (ring_ℚ (d ∷ left ∷ []) ((D ⊗ V) ⊗ (D ⊗ V)) ((D ⊗ D) ⊗ (V ⊗ V)) refl) h))

  -- both coordinates
  near_there : (d x0 y0 x1 y1 x y z w : Ratio) → length_squared (line_at x0 x1 l m t -ℚ x) (line_at y0 y1 l m t -ℚ y) ≤ℚ ((d *ℚ left) *ℚ (d *ℚ left)) → length_squared (line_at x0 z l u m -ℚ x1) (line_at y0 w l u m -ℚ y1) ≤ℚ (d *ℚ d) → length_squared (line_at x0 z l u t -ℚ x) (line_at y0 w l u t -ℚ y) ≤ℚ (d *ℚ d)
  near_there d x0 y0 x1 y1 x y z w h k =
      rw (parted x0 x1 x z, parted y0 y1 y w)
      (within_at (d *ℚ d) ((line_at x0 x1 l m t -ℚ x) /ℚ left) ((line_at y0 y1 l m t -ℚ y) /ℚ left) (line_at x0 z l u m -ℚ x1) (line_at y0 w l u m -ℚ y1) gone
      (gone_after l m t to_m (before-weak l t first)) (gone_until l m t to_m (before-weak t m next)) (by_left d _ _ h) k)

pub decides : (d spare : Ratio) (p q b : Break) → before p.instant b.instant ≡ true → before b.instant q.instant ≡ true → spare ≡ spare_beside d p q b → up_to (off_course p q b) (spare *ℚ spare) ≡ true → DecidesFor d p q b
decides d spare p q b first next e h n last k =
    le-test _ _
    (near_there p.instant b.instant q.instant n.instant first next last d p.place.x p.place.y q.place.x q.place.y b.place.x b.place.y n.place.x n.place.y
    (not-up_to-le _ _ (subst (λ z. up_to (off_course p q b) (z *ℚ z) ≡ true) e h))
    (not-up_to-le _ _ k))
