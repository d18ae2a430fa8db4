-- The distance of two ranges on one axis.
use Rattle.std.{specs.Prelude.{cond}, proofs.Common.{◌≡◌, ◌⊎◌, inl, inr, Bool, true, false, arith, refl, sym, ap, ◌∙◌, subst}, proofs.lemmas.Bool.{not-false}}
use Rattle.mob_ratio.{specs.Ratio.{Ratio, ◌-ℚ◌, ◌*ℚ◌, ◌<ℚ◌, ◌≤ℚ◌}, specs.Order.{before, up_to, smaller, greater}, specs.Sign.{nil}, proofs.IntRing.{linear}}
use Rattle.mob_ratio.{proofs.Clear.{clear1, clear2, clear4, cleared}, proofs.Field.{le_trans, le_refl, le_of_lt, mul_comm, sub_self, square-turned}, proofs.Order.{not-up_to-le, up_to-le, before-lt}}
use Rattle.mob_ratio.proofs.Convex.{square_le, le_mul_pos, sub_le}
use Rattle.mob_knn.specs.Gaps.{range_gap}

-- the greater of two numbers is one of them, and at least both
greater_cases : (a b : Ratio) (t : Bool) → before a b ≡ t → ((cond t b a ≡ a) × (b ≤ℚ a)) ⊎ ((cond t b a ≡ b) × (a <ℚ b))
greater_cases a b true e = inr (refl, before-lt a b e)
greater_cases a b false e = inl (refl, up_to-le b a e)

smaller_cases : (a b : Ratio) (t : Bool) → before b a ≡ t → ((cond t b a ≡ a) × (a ≤ℚ b)) ⊎ ((cond t b a ≡ b) × (b <ℚ a))
smaller_cases a b true e = inr (refl, before-lt b a e)
smaller_cases a b false e = inl (refl, up_to-le a b e)

-- one of the two ranges is below the other, and g is the distance between them
pub record AreSplit (a b c d g : Ratio) : Type 0 where
  pub way : ((d <ℚ a) × (g ≡ a -ℚ d)) ⊎ ((b <ℚ c) × (g ≡ c -ℚ b))

flip : (a b : Ratio) (h : up_to a b ≡ false) → b <ℚ a
flip a b h = before-lt b a (not-false (before b a) h)

le_not : (a b : Ratio) → a ≤ℚ b → b <ℚ a → ⊥
le_not = clear2 _ (λ D x y p h k. let h' = simp cleared at h in let k' = simp cleared at k in omega (arith, linear))

split_cases : (a b c d low high : Ratio) → a ≤ℚ b → c ≤ℚ d → ((low ≡ a) × (c ≤ℚ a)) ⊎ ((low ≡ c) × (a <ℚ c)) → ((high ≡ b) × (b ≤ℚ d)) ⊎ ((high ≡ d) × (d <ℚ b)) → high <ℚ low → AreSplit a b c d (low -ℚ high)
split_cases a b c d low high r s (inl l) (inl h) k = absurd (le_not a b r (subst (λ z. z <ℚ a) h.0 (subst (λ z. high <ℚ z) l.0 k)))
split_cases a b c d low high r s (inl l) (inr h) k = record { way = inl (subst (λ z. z <ℚ a) h.0 (subst (λ z. high <ℚ z) l.0 k), ap (λ z. z -ℚ high) l.0 ∙ ap (λ z. a -ℚ z) h.0) }
split_cases a b c d low high r s (inr l) (inl h) k = record { way = inr (subst (λ z. z <ℚ c) h.0 (subst (λ z. high <ℚ z) l.0 k), ap (λ z. z -ℚ high) l.0 ∙ ap (λ z. c -ℚ z) h.0) }
split_cases a b c d low high r s (inr l) (inr h) k = absurd (le_not c d s (subst (λ z. z <ℚ c) h.0 (subst (λ z. high <ℚ z) l.0 k)))

pub split : (a b c d : Ratio) → a ≤ℚ b → c ≤ℚ d → up_to (greater a c) (smaller b d) ≡ false → AreSplit a b c d (greater a c -ℚ smaller b d)
split a b c d r s h = split_cases a b c d (greater a c) (smaller b d) r s (greater_cases a c (before a c) refl) (smaller_cases b d (before d b) refl) (flip (greater a c) (smaller b d) h)

-- ---- squares

apart_up : (a d x y : Ratio) → a ≤ℚ x → y ≤ℚ d → (a -ℚ d) ≤ℚ (x -ℚ y)
apart_up = clear4 _ (λ D a d x y z h k. let h' = simp cleared at h in let k' = simp cleared at k in simp cleared (omega (arith, linear)))

diff_pos : (d a : Ratio) → d <ℚ a → nil ≤ℚ (a -ℚ d)
diff_pos d a h = sub_le d a (le_of_lt d a h)

square_up : (g z : Ratio) → nil ≤ℚ g → g ≤ℚ z → (g *ℚ g) ≤ℚ (z *ℚ z)
square_up g z h k = le_trans (g *ℚ g) (z *ℚ g) (z *ℚ z) (le_mul_pos g z g h k) (subst (λ w. w ≤ℚ (z *ℚ z)) (mul_comm g z) (le_mul_pos g z z (le_trans nil g z h k) k))

by_way : (a b c d g x y : Ratio) → AreSplit a b c d g → a ≤ℚ x → x ≤ℚ b → c ≤ℚ y → y ≤ℚ d → (g *ℚ g) ≤ℚ ((x -ℚ y) *ℚ (x -ℚ y))
by_way a b c d g x y w ax xb cy yd = elim w.way [
  | inl h ↦ subst (λ z. (z *ℚ z) ≤ℚ ((x -ℚ y) *ℚ (x -ℚ y))) (sym h.1) (square_up (a -ℚ d) (x -ℚ y) (diff_pos d a h.0) (apart_up a d x y ax yd))
  | inr h ↦ subst (λ z. (z *ℚ z) ≤ℚ ((x -ℚ y) *ℚ (x -ℚ y))) (sym h.1) (subst (λ z. ((c -ℚ b) *ℚ (c -ℚ b)) ≤ℚ z) (square-turned x y) (square_up (c -ℚ b) (y -ℚ x) (diff_pos b c h.0) (apart_up c b y x cy xb)))
]

zero_self : (x : Ratio) → (x -ℚ x) *ℚ (x -ℚ x) ≡ nil
zero_self = clear1 _ (λ D x p. simp cleared (omega (arith, linear)))

nil_square : nil *ℚ nil ≡ nil
nil_square = ap (λ z. z *ℚ z) (sym (sub_self nil)) ∙ zero_self nil

by_test : (a b c d x y : Ratio) (t : Bool) → up_to (greater a c) (smaller b d) ≡ t → a ≤ℚ x → x ≤ℚ b → c ≤ℚ y → y ≤ℚ d
    → (cond t nil (greater a c -ℚ smaller b d) *ℚ cond t nil (greater a c -ℚ smaller b d)) ≤ℚ ((x -ℚ y) *ℚ (x -ℚ y))
by_test a b c d x y true e ax xb cy yd = subst (λ z. z ≤ℚ ((x -ℚ y) *ℚ (x -ℚ y))) (sym nil_square) (square_le (x -ℚ y))
by_test a b c d x y false e ax xb cy yd = by_way a b c d (greater a c -ℚ smaller b d) x y (split a b c d (le_trans a x b ax xb) (le_trans c y d cy yd) e) ax xb cy yd

-- two numbers of the ranges are at least this far apart
pub between_below : (a b c d x y : Ratio) → a ≤ℚ x → x ≤ℚ b → c ≤ℚ y → y ≤ℚ d → (range_gap a b c d *ℚ range_gap a b c d) ≤ℚ ((x -ℚ y) *ℚ (x -ℚ y))
between_below a b c d x y ax xb cy yd = by_test a b c d x y (up_to (greater a c) (smaller b d)) refl ax xb cy yd

-- ---- and two numbers are exactly this far apart

pub record AreTaken (a b c d g : Ratio) : Type 0 where
  pub x : Ratio
  pub y : Ratio
  pub from_a : a ≤ℚ x
  pub to_b : x ≤ℚ b
  pub from_c : c ≤ℚ y
  pub to_d : y ≤ℚ d
  pub square : (x -ℚ y) *ℚ (x -ℚ y) ≡ g *ℚ g

le_of_cases : (a b low : Ratio) → ((low ≡ a) × (b ≤ℚ a)) ⊎ ((low ≡ b) × (a <ℚ b)) → (a ≤ℚ low) × (b ≤ℚ low)
le_of_cases a b low (inl h) = (subst (λ z. a ≤ℚ z) (sym h.0) (le_refl a), subst (λ z. b ≤ℚ z) (sym h.0) h.1)
le_of_cases a b low (inr h) = (subst (λ z. a ≤ℚ z) (sym h.0) (le_of_lt a b h.1), subst (λ z. b ≤ℚ z) (sym h.0) (le_refl b))

ge_of_cases : (a b high : Ratio) → ((high ≡ a) × (a ≤ℚ b)) ⊎ ((high ≡ b) × (b <ℚ a)) → (high ≤ℚ a) × (high ≤ℚ b)
ge_of_cases a b high (inl h) = (subst (λ z. z ≤ℚ a) (sym h.0) (le_refl a), subst (λ z. z ≤ℚ b) (sym h.0) h.1)
ge_of_cases a b high (inr h) = (subst (λ z. z ≤ℚ a) (sym h.0) (le_of_lt b a h.1), subst (λ z. z ≤ℚ b) (sym h.0) (le_refl b))

taken_test : (a b c d : Ratio) (t : Bool) → up_to (greater a c) (smaller b d) ≡ t → a ≤ℚ b → c ≤ℚ d → AreTaken a b c d (cond t nil (greater a c -ℚ smaller b d))
taken_test a b c d true e r s =
    let l = le_of_cases a c (greater a c) (greater_cases a c (before a c) refl) in
    let h = ge_of_cases b d (smaller b d) (smaller_cases b d (before d b) refl) in
    let k = not-up_to-le (greater a c) (smaller b d) e in
    record {
      x = greater a c;
      y = greater a c;
      from_a = l.0;
      to_b = le_trans _ _ _ k h.0;
      from_c = l.1;
      to_d = le_trans _ _ _ k h.1;
      square = zero_self (greater a c) ∙ sym nil_square;
    }
taken_test a b c d false e r s = elim (split a b c d r s e).way [
  | inl h ↦ record { x = a; y = d; from_a = le_refl a; to_b = r; from_c = s; to_d = le_refl d; square = ap (λ z. z *ℚ z) (sym h.1) }
  | inr h ↦ record { x = b; y = c; from_a = r; to_b = le_refl b; from_c = le_refl c; to_d = s; square = sym (square-turned b c) ∙ ap (λ z. z *ℚ z) (sym h.1) }
]

pub between_taken : (a b c d : Ratio) → a ≤ℚ b → c ≤ℚ d → AreTaken a b c d (range_gap a b c d)
between_taken a b c d r s = taken_test a b c d (up_to (greater a c) (smaller b d)) refl r s
