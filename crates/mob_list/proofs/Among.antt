-- A search in sorted numbers.
use Rattle.std.{specs.Prelude.{◌≢◌, Contains, is_ok}, specs.Ordering.{nat_cmp}, specs.List.Sorted.{IsBinarySearchResult, IsNonDecreasing}}
use Rattle.std.proofs.Common.{arith, ◌≡◌, ◌↔◌, ◌⊎◌, inl, inr, ◌∙◌, refl, sym, ap, subst, true≢false, ℕ, zero, suc, ◌<◌, ◌≤◌, ◌==◌, ◌||◌, Bool, true, false, length, List, [], ◌∷◌, get_or, Result, Ok}
use Rattle.std.{proofs.Common.{Err}, proofs.lemmas.List.Sorted.{searched}, proofs.lemmas.Bool.{eq-eqb, eqb-true, or_cases, or_left, or_right, cases_lt, ne_eqb}}
use Rattle.mob_list.{specs.Live.{is_among}, proofs.Entries.{first_in, later_in, none_in, which_in}}

pub at_among : (xs : List ℕ) (x i : ℕ) → i < length xs → get_or xs i 0 ≡ x → is_among x xs ≡ true
at_among [] x i lt e = absurd (omega (arith, lt))
at_among (y ∷ ys) x zero lt e = ap (λ b. b || is_among x ys) (eq-eqb y x e)
at_among (y ∷ ys) x (suc i) lt e = by (y == x) (at_among ys x i (omega (arith, lt)) e)
  where
    by : (b : Bool) → is_among x ys ≡ true → (b || is_among x ys) ≡ true
    by true rest = refl
    by false rest = rest

not_at : (xs : List ℕ) (x : ℕ) → ((k : ℕ) → k < length xs → get_or xs k 0 ≢ x) → is_among x xs ≡ false
not_at [] x apart = refl
not_at (y ∷ ys) x apart = ap (λ b. b || is_among x ys) (ne_eqb y x (apart 0 (omega arith))) ∙ not_at ys x (λ k lt. apart (suc k) (omega (arith, lt)))

pub found_among : (xs : List ℕ) (x : ℕ) (r : Result ℕ ℕ) → IsBinarySearchResult (λ y. nat_cmp y x) xs r → IsNonDecreasing xs → is_ok r ≡ is_among x xs
found_among xs x (Ok i) h rise = let at = searched xs x (Ok i) h (λ i j le lt. rise i j 0 le lt) in sym (at_among xs x i at.0 at.1)
found_among xs x (Err i) h rise =
    let at = searched xs x (Err i) h (λ i j le lt. rise i j 0 le lt) in
    sym (not_at xs x (λ k lt e. apart at.1 at.2 k lt e (cases_lt k i)))
  where
    apart : ((k : ℕ) → k < i → get_or xs k 0 < x) → ((k : ℕ) → i ≤ k → k < length xs → x < get_or xs k 0) → (k : ℕ) → k < length xs → get_or xs k 0 ≡ x → (k < i) ⊎ (i ≤ k) → ⊥
    apart below above k lt e (inl l) = let b = below k l in omega (arith, b, e)
    apart below above k lt e (inr l) = let b = above k l lt in omega (arith, b, e)

-- the test is true exactly of the numbers in the list
pub among-Contains : (n : ℕ) (ns : List ℕ) → (is_among n ns ≡ true) ↔ Contains ns n
among-Contains n ns = (is_there ns, is_among_them ns)
  where
    is_there : (ns : List ℕ) → is_among n ns ≡ true → Contains ns n
    is_there [] h = absurd (true≢false (sym h))
    is_there (m ∷ ms) h = elim (or_cases (m == n) (is_among n ms) h) [
      | inl e ↦ subst (Contains (m ∷ ms)) (eqb-true m n e) (first_in m ms)
      | inr k ↦ later_in m ms n (is_there ms k)
    ]

    is_among_them : (ns : List ℕ) → Contains ns n → is_among n ns ≡ true
    is_among_them [] h = absurd (none_in n h)
    is_among_them (m ∷ ms) h = elim (which_in m ms n h) [
      | inl e ↦ or_left (m == n) (is_among n ms) (eq-eqb m n e)
      | inr k ↦ or_right (m == n) (is_among n ms) (is_among_them ms k)
    ]
