-- Sorted lists.
use Rattle.std.{specs.List.{AllByRecursion}, proofs.Common.{◌≡◌, ◌≤◌, ◌<◌, ◌+◌, arith, ℕ, List, [], ◌∷◌, ◌++◌}}
use Rattle.mob_list.proofs.Each.{each_both, each_on}
use Rattle.mob_typed.specs.Written.{Rises}

-- a list whose elements all have the number n, then one whose elements have greater numbers
module _ {A : Type 0} (R : A → A → Type 0) (number : A → ℕ) (earlier : (x y : A) → number x < number y → R x y) where
  pub both_rise : (n : ℕ) (xs ys : List A) → Rises R xs → AllByRecursion (λ x. number x ≡ n) xs → Rises R ys → AllByRecursion (λ y. n + 1 ≤ number y) ys → Rises R (xs ++ ys)
  both_rise n [] ys h own k later = k
  both_rise n (x ∷ xs) ys h own k later =
      let is = own.0 in
      (each_both (R x) xs ys h.0 (each_on (λ y. n + 1 ≤ number y) (R x) (λ y le. earlier x y (omega arith)) ys later), both_rise n xs ys h.1 own.1 k later)
