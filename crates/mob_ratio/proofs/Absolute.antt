-- Absolute values of rationals, and the test by quotients.
use Rattle.std.proofs.Common.{◌≡◌, Bool, true, false, cond, ◌||◌, ◌⊎◌, inl, inr, pos, [], ◌∷◌, arith, refl, sym, ap, ◌∙◌, subst, true≢false}
use Rattle.mob_ratio.{specs.Ratio.{Ratio, neg_ℚ, ◌*ℚ◌, ◌/ℚ◌, ◌<ℚ◌, ◌≤ℚ◌}, specs.Order.{before, up_to, same}, specs.Sign.{nil}, specs.Quadratic.{absolute, square_is_within}}
use Rattle.mob_ratio.{proofs.Order.{before-lt, before-neither, up_to-le, le-up_to, not-up_to-le, same_exact, same_truth}, proofs.IntRing.{linear}, proofs.Clear.{clear1, cleared}}
use Rattle.mob_ratio.{proofs.Field.{lt_by, le_of_lt, cases_lt, le_antisymm}, proofs.Divide.{div-mul}, proofs.Ring.{at, lit, minus, ◌⊕◌, ◌⊗◌}, proofs.Rings.{ring_ℚ}}
use Rattle.mob_ratio.proofs.Convex.{above_ne, mul_le, mul_lt, le_of_mul_pos, le_mul_pos}

neg_nil : neg_ℚ nil ≡ nil
neg_nil = ring_ℚ [] (minus (lit (pos 0))) (lit (pos 0)) refl

pub size_pos : (a : Ratio) → nil ≤ℚ a → absolute a ≡ a
unfolding absolute
size_pos a h = rw (le-up_to nil a h) refl

size_neg_by : (a : Ratio) → a ≤ℚ nil → (p : Bool) → before a nil ≡ p → cond p (neg_ℚ a) a ≡ neg_ℚ a
size_neg_by a h true e = refl
size_neg_by a h false e = let z : a ≡ nil = le_antisymm a nil h (up_to-le nil a e) in z ∙ sym neg_nil ∙ ap neg_ℚ (sym z)

pub size_neg : (a : Ratio) → a ≤ℚ nil → absolute a ≡ neg_ℚ a
unfolding absolute
size_neg a h = size_neg_by a h (before a nil) refl

neg_le : (a : Ratio) → a ≤ℚ nil → nil ≤ℚ neg_ℚ a
neg_le = clear1 _ (λ D x p h. let h' = simp cleared at h in simp cleared (omega (arith, linear)))

neg_of : (a : Ratio) → nil ≤ℚ neg_ℚ a → a ≤ℚ nil
neg_of = clear1 _ (λ D x p h. let h' = simp cleared at h in simp cleared (omega (arith, linear)))

le_cases : (a : Ratio) → (a ≤ℚ nil) ⊎ (nil ≤ℚ a)
le_cases a = elim (cases_lt a nil) [ inl h ↦ inl (le_of_lt a nil h) | inr h ↦ inr h ]

size_mul_by : (a b : Ratio) → (a ≤ℚ nil) ⊎ (nil ≤ℚ a) → (b ≤ℚ nil) ⊎ (nil ≤ℚ b) → absolute (a *ℚ b) ≡ absolute a *ℚ absolute b
size_mul_by a b (inl h) (inl k) =
    let A = at 0 in let B = at 1 in
    let e = ring_ℚ (a ∷ b ∷ []) (minus A ⊗ minus B) (A ⊗ B) refl in
    rw (size_neg a h, size_neg b k, size_pos (a *ℚ b) (subst (λ z. nil ≤ℚ z) e (mul_le _ _ (neg_le a h) (neg_le b k)))) (sym e)
size_mul_by a b (inl h) (inr k) =
    let A = at 0 in let B = at 1 in
    let e = ring_ℚ (a ∷ b ∷ []) (minus A ⊗ B) (minus (A ⊗ B)) refl in
    rw (size_neg a h, size_pos b k, size_neg (a *ℚ b) (neg_of _ (subst (λ z. nil ≤ℚ z) e (mul_le _ _ (neg_le a h) k)))) (sym e)
size_mul_by a b (inr h) (inl k) =
    let A = at 0 in let B = at 1 in
    let e = ring_ℚ (a ∷ b ∷ []) (A ⊗ minus B) (minus (A ⊗ B)) refl in
    rw (size_pos a h, size_neg b k, size_neg (a *ℚ b) (neg_of _ (subst (λ z. nil ≤ℚ z) e (mul_le _ _ h (neg_le b k))))) (sym e)
size_mul_by a b (inr h) (inr k) = rw (size_pos a h, size_pos b k) (size_pos (a *ℚ b) (mul_le a b h k))

pub size_mul : (a b : Ratio) → absolute (a *ℚ b) ≡ absolute a *ℚ absolute b
size_mul a b = size_mul_by a b (le_cases a) (le_cases b)

size_square_by : (a : Ratio) → (a ≤ℚ nil) ⊎ (nil ≤ℚ a) → absolute a *ℚ absolute a ≡ a *ℚ a
size_square_by a (inl h) = let A = at 0 in rw (size_neg a h) (ring_ℚ (a ∷ []) (minus A ⊗ minus A) (A ⊗ A) refl)
size_square_by a (inr h) = rw (size_pos a h) refl

pub size_square : (a : Ratio) → absolute a *ℚ absolute a ≡ a *ℚ a
size_square a = size_square_by a (le_cases a)

size_above_by : (a : Ratio) → (a ≡ nil → ⊥) → (p q : Bool) → before a nil ≡ p → before nil a ≡ q → nil <ℚ absolute a
size_above_by a ne true q ep eq = rw (size_neg a (le_of_lt _ _ (before-lt a nil ep))) (let A = at 0 in lt_by a nil nil (neg_ℚ a) (before-lt a nil ep) (ring_ℚ (a ∷ []) (lit (pos 0) ⊕ lit (pos 0)) (minus A ⊕ A) refl))
size_above_by a ne false true ep eq = rw (size_pos a (up_to-le nil a ep)) (before-lt nil a eq)
size_above_by a ne false false ep eq = absurd (ne (before-neither a nil ep eq))

pub size_above : (a : Ratio) → (a ≡ nil → ⊥) → nil <ℚ absolute a
size_above a ne = size_above_by a ne _ _ refl refl

-- multiplying by a number above 0 keeps the order
up_to_mul : (p q n : Ratio) → nil <ℚ n → up_to p q ≡ up_to (p *ℚ n) (q *ℚ n)
up_to_mul p q n h = same_truth _ _
    (λ e. rw (le-up_to _ _ (le_mul_pos p q n (le_of_lt _ _ h) (not-up_to-le p q e))) refl)
    (λ e. rw (le-up_to _ _ (le_of_mul_pos p q n h (not-up_to-le _ _ e))) refl)

-- the absolute values of the quotients compare as k·k and a·d
pub by_sizes : (a k d : Ratio) → nil <ℚ a → (k ≡ nil → ⊥) → nil ≤ℚ d → up_to (absolute (k /ℚ a)) (absolute (d /ℚ k)) ≡ up_to (k *ℚ k) (a *ℚ d)
by_sizes a k d ha nk hd =
    let Q = at 0 in let A = at 1 in let K = at 2 in let D = at 3 in
    let q = absolute (k /ℚ a) in
    let r = absolute (d /ℚ k) in
    let h = absolute k in
    let e : q *ℚ a ≡ h = ap (λ z. q *ℚ z) (sym (size_pos a (le_of_lt _ _ ha))) ∙ sym (size_mul (k /ℚ a) a) ∙ ap absolute (div-mul k a (above_ne a ha)) in
    let f : r *ℚ h ≡ d = sym (size_mul (d /ℚ k) k) ∙ ap absolute (div-mul d k nk) ∙ size_pos d hd in
    let left : q *ℚ (a *ℚ h) ≡ k *ℚ k = ring_ℚ (q ∷ a ∷ h ∷ []) (Q ⊗ (A ⊗ K)) ((Q ⊗ A) ⊗ K) refl ∙ ap (λ z. z *ℚ h) e ∙ size_square k in
    let right : r *ℚ (a *ℚ h) ≡ a *ℚ d = ring_ℚ (r ∷ a ∷ h ∷ []) (Q ⊗ (A ⊗ K)) (A ⊗ (Q ⊗ K)) refl ∙ ap (λ z. a *ℚ z) f in
    up_to_mul q r (a *ℚ h) (mul_lt a h ha (size_above k nk)) ∙ ap (λ z. up_to z (r *ℚ (a *ℚ h))) left ∙ ap (λ z. up_to (k *ℚ k) z) right

test_by : (a k d : Ratio) → nil <ℚ a → nil ≤ℚ d → (p : Bool) → same k nil ≡ p → (p || up_to (absolute (k /ℚ a)) (absolute (d /ℚ k))) ≡ up_to (k *ℚ k) (a *ℚ d)
test_by a k d ha hd true e =
    let A = at 0 in
    let z : k *ℚ k ≡ nil = ap (λ z. z *ℚ z) ((same_exact k nil).0 e) ∙ ring_ℚ [] (lit (pos 0) ⊗ lit (pos 0)) (lit (pos 0)) refl in
    rw z (rw (le-up_to nil (a *ℚ d) (mul_le a d (le_of_lt _ _ ha) hd)) refl)
test_by a k d ha hd false e = by_sizes a k d ha (λ z. true≢false (sym ((same_exact k nil).1 z) ∙ e)) hd

pub inner_test : (a k d : Ratio) → nil <ℚ a → nil ≤ℚ d → square_is_within a k d ≡ up_to (k *ℚ k) (a *ℚ d)
inner_test a k d ha hd = test_by a k d ha hd (same k nil) refl
