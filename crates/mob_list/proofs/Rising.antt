-- Lists that rise by a test, and numbers that increase strictly.
use Rattle.std.{specs.List.{AllByRecursion}, specs.List.Sorted.{IsNonDecreasing, IsSortedBy, IsStrictlyIncreasing}, specs.Cmp.{IsStrictWeakOrder}, proofs.lemmas.List.Sorted.{IsNonDecreasingBy-from_default, sorted_far}}
use Rattle.std.proofs.Common.{◌≡◌, arith, ℕ, zero, suc, ◌+◌, ◌<◌, ◌≤◌, Bool, false, length, List, [], ◌∷◌, get_or, subst}
use Rattle.mob_list.proofs.Each.{each_on}
use native.Mathlib.Numerals.{unary_clauses}

module _ {X : Type 0} (lt : X → X → Bool) where
  -- no entry is less than x
  abbrev pub Leads : X → List X → Type 0
  Leads x [] = Unit {0}
  Leads x (y ∷ ys) = (lt y x ≡ false) × Leads x ys

  -- no entry is less than one before it
  abbrev pub Rises : List X → Type 0
  Rises [] = Unit {0}
  Rises (x ∷ xs) = Leads x xs × Rises xs

  leads_each : (x : X) (ys : List X) → ((k : ℕ) (d : X) → k < length ys → lt (get_or ys k d) x ≡ false) → Leads x ys
  leads_each x [] f = tt
  leads_each x (y ∷ ys) f = (f 0 y (omega arith), leads_each x ys (λ k d h. f (suc k) d (omega arith)))

  pub rises_sorted : IsStrictWeakOrder lt → (xs : List X) → IsSortedBy lt xs → Rises xs
  rises_sorted order [] up = tt
  rises_sorted order (x ∷ xs) up = (
    leads_each x xs (λ k d h. sorted_far lt order (x ∷ xs) up 0 (suc k) d (omega arith) (omega arith)),
    rises_sorted order xs (λ k d low h.
        let next : suc k + 1 ≡ suc (k + 1) = omega arith in
        subst (λ n. lt (get_or (x ∷ xs) n d) (get_or (x ∷ xs) (suc k) d) ≡ false) next (up (suc k) d (omega arith) (omega arith))),
  )

-- the numbers after the first increase too
pub tail_rises : (x : ℕ) (xs : List ℕ) → IsStrictlyIncreasing (x ∷ xs) → IsStrictlyIncreasing xs
tail_rises x xs h k lt = simp unary_clauses (simp unary_clauses at h (suc k) (omega (arith, lt)))

-- and are above it
pub above_first : (x : ℕ) (xs : List ℕ) → IsStrictlyIncreasing (x ∷ xs) → AllByRecursion (λ n. x < n) xs
above_first x [] h = tt
above_first x (y ∷ ys) h =
    let next : x < y = h 0 (omega arith) in
    (next, each_on (λ (n : ℕ). y < n) (λ n. x < n) (λ n lt. omega (arith, next, lt)) ys (above_first y ys (tail_rises x (y ∷ ys) h)))

each_number : (P : ℕ → Type 0) (xs : List ℕ) (k : ℕ) → AllByRecursion P xs → k < length xs → P (get_or xs k 0)
each_number P [] k h lt = absurd (omega (arith, lt))
each_number P (x ∷ xs) zero h lt = h.0
each_number P (x ∷ xs) (suc k) h lt = each_number P xs k h.1 (omega (arith, lt))

pub rises_up : (xs : List ℕ) → IsStrictlyIncreasing xs → (i j : ℕ) → i ≤ j → j < length xs → get_or xs i 0 ≤ get_or xs j 0
rises_up [] h i j le lt = absurd (omega (arith, lt))
rises_up (x ∷ xs) h zero zero le lt = omega arith
rises_up (x ∷ xs) h zero (suc j) le lt = let k = each_number (λ n. x < n) xs j (above_first x xs h) (omega (arith, lt)) in omega (arith, k)
rises_up (x ∷ xs) h (suc i) zero le lt = absurd (omega (arith, le))
rises_up (x ∷ xs) h (suc i) (suc j) le lt = rises_up xs (tail_rises x xs h) i j (omega (arith, le)) (omega (arith, lt))

-- so they are sorted
pub not_falling : (xs : List ℕ) → IsStrictlyIncreasing xs → IsNonDecreasing xs
not_falling xs rise = IsNonDecreasingBy-from_default (λ x. x) xs 0 (rises_up xs rise)
