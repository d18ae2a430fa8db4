-- Laws of a convex quadratic.
use Rattle.std.proofs.Common.{◌≡◌, inl, inr, pos, [], ◌∷◌, arith, refl, sym, ap, ◌∙◌}
use Rattle.mob_ratio.{specs.Ratio.{Ratio, ◌+ℚ◌, ◌-ℚ◌, neg_ℚ, ◌*ℚ◌, ◌/ℚ◌, ◌<ℚ◌, ◌≤ℚ◌}, specs.Sign.{nil}, specs.Quadratic.{one, quadratic, at_one}, proofs.IntRing.{linear, products, lt_mul, le_mul}}
use Rattle.mob_ratio.{proofs.Clear.{clear1, clear2, clear3, cleared}, proofs.Field.{le_by, lt_by, le_trans, lt_trans, le_of_lt, le_of_eq, cases_lt, not_both, lt_mul_pos, lt_of_mul_pos, le_lt}}
use Rattle.mob_ratio.{proofs.Divide.{div-mul}, proofs.Ring.{at, lit, minus, ◌⊕◌, ◌⊗◌, ◌⊖◌}, proofs.Rings.{ring_ℚ}}

-- ---- order
pub mul_le : (a b : Ratio) → nil ≤ℚ a → nil ≤ℚ b → nil ≤ℚ (a *ℚ b)
mul_le = clear2 _ (λ D x y p h k.
    let h' = simp cleared at h in
    let k' = simp cleared at k in
    let m = simp products at (le_mul (pos 0) x y k' h') in
    simp cleared (omega (arith, linear)))

pub mul_lt : (a b : Ratio) → nil <ℚ a → nil <ℚ b → nil <ℚ (a *ℚ b)
mul_lt = clear2 _ (λ D x y p h k.
    let h' = simp cleared at h in
    let k' = simp cleared at k in
    let m = simp products at (lt_mul (pos 0) x y k' h') in
    simp cleared (omega (arith, linear)))

pub add_le : (a b : Ratio) → nil ≤ℚ a → nil ≤ℚ b → nil ≤ℚ (a +ℚ b)
add_le = clear2 _ (λ D x y p h k. let h' = simp cleared at h in let k' = simp cleared at k in simp cleared (omega (arith, linear)))

pub add_lt_le : (a b : Ratio) → nil <ℚ a → nil ≤ℚ b → nil <ℚ (a +ℚ b)
add_lt_le = clear2 _ (λ D x y p h k. let h' = simp cleared at h in let k' = simp cleared at k in simp cleared (omega (arith, linear)))

pub sub_le : (a b : Ratio) → a ≤ℚ b → nil ≤ℚ (b -ℚ a)
sub_le = clear2 _ (λ D x y p h. let h' = simp cleared at h in simp cleared (omega (arith, linear)))

pub sub_lt : (a b : Ratio) → a <ℚ b → nil <ℚ (b -ℚ a)
sub_lt = clear2 _ (λ D x y p h. let h' = simp cleared at h in simp cleared (omega (arith, linear)))

pub le_mul_pos : (a b c : Ratio) → nil ≤ℚ c → a ≤ℚ b → (a *ℚ c) ≤ℚ (b *ℚ c)
le_mul_pos = clear3 _ (λ D x y z p h k.
    let h' = simp cleared at h in
    let k' = simp cleared at k in
    simp cleared (le_mul x y z h' k'))

pub le_of_mul_pos : (a b c : Ratio) → nil <ℚ c → (a *ℚ c) ≤ℚ (b *ℚ c) → a ≤ℚ b
le_of_mul_pos a b c hc h = elim (cases_lt b a) [ inl g ↦ absurd (not_both (b *ℚ c) (a *ℚ c) (lt_mul_pos b a c hc g) h) | inr g ↦ g ]

neg_le : (a : Ratio) → a <ℚ nil → nil ≤ℚ neg_ℚ a
neg_le = clear1 _ (λ D x p h. let h' = simp cleared at h in simp cleared (omega (arith, linear)))

pub square_le : (a : Ratio) → nil ≤ℚ (a *ℚ a)
square_le a = elim (cases_lt a nil) [
  | inl h ↦ le_trans nil (neg_ℚ a *ℚ neg_ℚ a) (a *ℚ a) (mul_le (neg_ℚ a) (neg_ℚ a) (neg_le a h) (neg_le a h)) (le_of_eq _ _ (let A = at 0 in ring_ℚ (a ∷ []) (minus A ⊗ minus A) (A ⊗ A) refl))
  | inr h ↦ mul_le a a h h
]

-- ---- the quadratic
-- a times the value is a times the least value, plus a square
pub complete : (a b c s : Ratio) → (a *ℚ c -ℚ b *ℚ b) +ℚ (a *ℚ s +ℚ b) *ℚ (a *ℚ s +ℚ b) ≡ a *ℚ quadratic a b c s +ℚ nil
complete a b c s =
    let A = at 0 in let B = at 1 in let C = at 2 in let S = at 3 in
    ring_ℚ (a ∷ b ∷ c ∷ s ∷ []) ((A ⊗ C ⊖ B ⊗ B) ⊕ (A ⊗ S ⊕ B) ⊗ (A ⊗ S ⊕ B)) (A ⊗ ((C ⊕ S ⊗ (B ⊕ B)) ⊕ (S ⊗ S) ⊗ A) ⊕ lit (pos 0)) refl

pub least : (a b c s : Ratio) → (a *ℚ c -ℚ b *ℚ b) ≤ℚ (a *ℚ quadratic a b c s)
least a b c s = le_by nil ((a *ℚ s +ℚ b) *ℚ (a *ℚ s +ℚ b)) _ _ (square_le (a *ℚ s +ℚ b)) (complete a b c s)

at_least : (a b c s : Ratio) → (a *ℚ c -ℚ b *ℚ b) +ℚ nil *ℚ nil ≡ a *ℚ quadratic a b c s +ℚ nil → a *ℚ quadratic a b c s ≡ a *ℚ c -ℚ b *ℚ b
at_least a b c s e =
    let K = at 0 in let Q = at 1 in
    let k = a *ℚ c -ℚ b *ℚ b in
    let q = a *ℚ quadratic a b c s in
    ring_ℚ (k ∷ q ∷ []) Q (Q ⊕ lit (pos 0)) refl ∙ sym e ∙ ring_ℚ (k ∷ q ∷ []) (K ⊕ lit (pos 0) ⊗ lit (pos 0)) K refl

-- if a·s is -b, the value is the least value
pub taken : (a b c s : Ratio) → a *ℚ s +ℚ b ≡ nil → a *ℚ quadratic a b c s ≡ a *ℚ c -ℚ b *ℚ b
taken a b c s e = at_least a b c s (ap (λ z. (a *ℚ c -ℚ b *ℚ b) +ℚ z *ℚ z) (sym e) ∙ complete a b c s)

-- from a slope of at least 0 on, it does not fall
pub rises : (a b c s : Ratio) → nil ≤ℚ a → nil ≤ℚ b → nil ≤ℚ s → c ≤ℚ quadratic a b c s
rises a b c s ha hb hs =
    let A = at 0 in let B = at 1 in let C = at 2 in let S = at 3 in
    le_by nil (s *ℚ (b +ℚ b) +ℚ (s *ℚ s) *ℚ a) _ _
    (add_le _ _ (mul_le s (b +ℚ b) hs (add_le b b hb hb)) (mul_le (s *ℚ s) a (square_le s) ha))
    (ring_ℚ (a ∷ b ∷ c ∷ s ∷ []) (C ⊕ (S ⊗ (B ⊕ B) ⊕ (S ⊗ S) ⊗ A)) (((C ⊕ S ⊗ (B ⊕ B)) ⊕ (S ⊗ S) ⊗ A) ⊕ lit (pos 0)) refl)

-- from a slope of at least 0 on, it rises at once if it rises at all
pub rises_above : (a b c s : Ratio) → nil ≤ℚ b → nil <ℚ s → s ≤ℚ one → c <ℚ at_one a b c → c <ℚ quadratic a b c s
rises_above a b c s hb hs ht h =
    let A = at 0 in let B = at 1 in let C = at 2 in let S = at 3 in
    lt_by nil ((s *ℚ s) *ℚ (at_one a b c -ℚ c) +ℚ (s *ℚ (b +ℚ b)) *ℚ (one -ℚ s)) _ _
    (add_lt_le _ _ (mul_lt (s *ℚ s) (at_one a b c -ℚ c) (mul_lt s s hs hs) (sub_lt _ _ h)) (mul_le (s *ℚ (b +ℚ b)) (one -ℚ s) (mul_le s (b +ℚ b) (le_of_lt _ _ hs) (add_le b b hb hb)) (sub_le s one ht)))
    (ring_ℚ (a ∷ b ∷ c ∷ s ∷ []) (C ⊕ ((S ⊗ S) ⊗ (((C ⊕ (B ⊕ B)) ⊕ A) ⊖ C) ⊕ (S ⊗ (B ⊕ B)) ⊗ (lit (pos 1) ⊖ S))) (((C ⊕ S ⊗ (B ⊕ B)) ⊕ (S ⊗ S) ⊗ A) ⊕ lit (pos 0)) refl)

-- the same, from the other end
abbrev pub back : Ratio → Ratio → Ratio
back a b = neg_ℚ (a +ℚ b)

pub mirror : (a b c s : Ratio) → quadratic a (back a b) (at_one a b c) (one -ℚ s) ≡ quadratic a b c s
mirror a b c s =
    let A = at 0 in let B = at 1 in let C = at 2 in let S = at 3 in let T = lit (pos 1) ⊖ S in let N = minus (A ⊕ B) in
    ring_ℚ (a ∷ b ∷ c ∷ s ∷ []) ((((C ⊕ (B ⊕ B)) ⊕ A) ⊕ T ⊗ (N ⊕ N)) ⊕ (T ⊗ T) ⊗ A) ((C ⊕ S ⊗ (B ⊕ B)) ⊕ (S ⊗ S) ⊗ A) refl

pub mirror_last : (a b c : Ratio) → at_one a (back a b) (at_one a b c) ≡ c
mirror_last a b c =
    let A = at 0 in let B = at 1 in let C = at 2 in let N = minus (A ⊕ B) in
    ring_ℚ (a ∷ b ∷ c ∷ []) ((((C ⊕ (B ⊕ B)) ⊕ A) ⊕ (N ⊕ N)) ⊕ A) C refl

-- it lies below its chord
pub convex : (a b c s : Ratio) → nil ≤ℚ a → nil ≤ℚ s → s ≤ℚ one → quadratic a b c s ≤ℚ (c +ℚ s *ℚ (at_one a b c -ℚ c))
convex a b c s ha hs ht =
    let A = at 0 in let B = at 1 in let C = at 2 in let S = at 3 in
    le_by nil ((s *ℚ (one -ℚ s)) *ℚ a) _ _
    (mul_le _ a (mul_le s (one -ℚ s) hs (sub_le s one ht)) ha)
    (ring_ℚ (a ∷ b ∷ c ∷ s ∷ []) (((C ⊕ S ⊗ (B ⊕ B)) ⊕ (S ⊗ S) ⊗ A) ⊕ (S ⊗ (lit (pos 1) ⊖ S)) ⊗ A) ((C ⊕ S ⊗ (((C ⊕ (B ⊕ B)) ⊕ A) ⊖ C)) ⊕ lit (pos 0)) refl)

pub quadratic-first : (a b c : Ratio) → quadratic a b c nil ≡ c
quadratic-first a b c = let A = at 0 in let B = at 1 in let C = at 2 in let S = lit (pos 0) in ring_ℚ (a ∷ b ∷ c ∷ []) ((C ⊕ S ⊗ (B ⊕ B)) ⊕ (S ⊗ S) ⊗ A) C refl

pub quadratic-at_one : (a b c : Ratio) → quadratic a b c one ≡ at_one a b c
quadratic-at_one a b c = let A = at 0 in let B = at 1 in let C = at 2 in let S = lit (pos 1) in ring_ℚ (a ∷ b ∷ c ∷ []) ((C ⊕ S ⊗ (B ⊕ B)) ⊕ (S ⊗ S) ⊗ A) ((C ⊕ (B ⊕ B)) ⊕ A) refl

-- ---- near an end
-- s is strictly between 0 and 1 and the value there is below m
pub record IsBelowInside (a b c m s : Ratio) : Type 0 where
  pub after : nil <ℚ s
  pub until : s <ℚ one
  pub below : quadratic a b c s <ℚ m

pub one_above : nil <ℚ one
one_above = simp cleared (omega (arith, linear))

above_one : (a : Ratio) → a <ℚ (a +ℚ one)
above_one a = let A = at 0 in lt_by nil one a (a +ℚ one) one_above (ring_ℚ (a ∷ []) (A ⊕ lit (pos 1)) ((A ⊕ lit (pos 1)) ⊕ lit (pos 0)) refl)

pub above_ne : (a : Ratio) → nil <ℚ a → a ≡ nil → ⊥
above_ne a h e = not_both nil a h (le_of_eq a nil e)

below_by : (a b c m s : Ratio) → nil ≤ℚ a → nil ≤ℚ c → nil ≤ℚ at_one a b c → c <ℚ m → s *ℚ (((m -ℚ c) +ℚ at_one a b c) +ℚ one) ≡ m -ℚ c → nil <ℚ (((m -ℚ c) +ℚ at_one a b c) +ℚ one) → IsBelowInside a b c m s
below_by a b c m s ha hc hl h e hn =
    let d = m -ℚ c in
    let n = (d +ℚ at_one a b c) +ℚ one in
    let hd : nil <ℚ d = sub_lt c m h in
    let S = at 0 in let N = at 1 in let D = at 2 in let L = at 3 in let C = at 4 in let M = at 5 in
    let after : nil <ℚ s = lt_of_mul_pos nil s n hn (lt_by nil d _ _ hd (ap (λ z. nil *ℚ n +ℚ z) (sym e) ∙ ring_ℚ (s ∷ n ∷ []) (lit (pos 0) ⊗ N ⊕ S ⊗ N) (S ⊗ N ⊕ lit (pos 0)) refl)) in
    let until : s <ℚ one = lt_of_mul_pos s one n hn (lt_by nil (at_one a b c +ℚ one) _ _ (le_lt nil (at_one a b c) _ hl (above_one (at_one a b c)))
    (ap (λ z. z +ℚ (at_one a b c +ℚ one)) e ∙ ring_ℚ (s ∷ n ∷ d ∷ at_one a b c ∷ []) (D ⊕ (L ⊕ lit (pos 1))) (lit (pos 1) ⊗ ((D ⊕ L) ⊕ lit (pos 1)) ⊕ lit (pos 0)) refl)) in
    record {
      after = after;
      until = until;
      below = le_lt _ (c +ℚ s *ℚ (at_one a b c -ℚ c)) m (convex a b c s ha (le_of_lt _ _ after) (le_of_lt _ _ until))
          (lt_by nil (s +ℚ (s *ℚ d +ℚ s *ℚ c)) _ _ (add_lt_le s _ after (add_le _ _ (mul_le s d (le_of_lt _ _ after) (le_of_lt _ _ hd)) (mul_le s c (le_of_lt _ _ after) hc)))
          (ring_ℚ (s ∷ n ∷ d ∷ at_one a b c ∷ c ∷ []) ((C ⊕ S ⊗ (L ⊖ C)) ⊕ (S ⊕ (S ⊗ D ⊕ S ⊗ C))) (C ⊕ S ⊗ ((D ⊕ L) ⊕ lit (pos 1))) refl ∙ ap (λ z. c +ℚ z) e ∙ ring_ℚ (s ∷ n ∷ d ∷ at_one a b c ∷ c ∷ m ∷ []) (C ⊕ (M ⊖ C)) (M ⊕ lit (pos 0)) refl));
    }

-- for each bound above the first value, there is a value below it strictly inside
pub below_first : (a b c m : Ratio) → nil ≤ℚ a → nil ≤ℚ c → nil ≤ℚ at_one a b c → c <ℚ m → (s : Ratio) × IsBelowInside a b c m s
below_first a b c m ha hc hl h =
    let d = m -ℚ c in
    let n = (d +ℚ at_one a b c) +ℚ one in
    let hn : nil <ℚ n = lt_trans nil (d +ℚ at_one a b c) n (add_lt_le d (at_one a b c) (sub_lt c m h) hl) (above_one _) in
    (d /ℚ n, below_by a b c m (d /ℚ n) ha hc hl h (div-mul d n (above_ne n hn)) hn)

-- the same at the other end
pub below_last : (a b c m : Ratio) → nil ≤ℚ a → nil ≤ℚ c → nil ≤ℚ at_one a b c → at_one a b c <ℚ m → (s : Ratio) × IsBelowInside a b c m s
below_last a b c m ha hc hl h =
    let f = below_first a (back a b) (at_one a b c) m ha hl (rw (mirror_last a b c) hc) h in
    let t = f.0 in
    let S = at 0 in
    let e : one -ℚ (one -ℚ t) ≡ t = ring_ℚ (t ∷ []) (lit (pos 1) ⊖ (lit (pos 1) ⊖ S)) S refl in (
      one -ℚ t,
      record {
        after = sub_lt t one f.1.until;
        until = lt_by nil t _ _ f.1.after (ring_ℚ (t ∷ []) ((lit (pos 1) ⊖ S) ⊕ S) (lit (pos 1) ⊕ lit (pos 0)) refl);
        below = rw (← mirror a b c (one -ℚ t), e) f.1.below;
      },
    )
