-- One pass over all rows that keeps the nearest of those seen.
use Rattle.std.{specs.Prelude.{◌≡◌, ◌⊎◌, ℕ, true, cond, List, [], ◌∷◌, Option, Some, None, length, take, drop}, specs.List.{AllByRecursion}}
use Rattle.mob_ratio.{specs.Ratio.{Ratio}, specs.Order.{before, up_to}}
use Rattle.mob_slice.{specs.Lines.{plane_value_of}, specs.Sides.{Slices, given_at}}
use Rattle.mob_near.specs.Approaches.{IsApproach}
use Rattle.mob_knn.specs.Nearest.{TripOf, Asked}

-- a row put among rows with ascending approaches: behind all whose approach is at most its own
abbrev pub put_in : ℕ × Ratio → List (ℕ × Ratio) → List (ℕ × Ratio)
put_in x [] = x ∷ []
put_in x (r ∷ rs) = cond (before x.1 r.1) (x ∷ r ∷ rs) (r ∷ put_in x rs)

-- m is below the first approach of these rows, if there is one
abbrev pub IsBelowFirst : Ratio → List (ℕ × Ratio) → Type 0
IsBelowFirst m [] = Unit {0}
IsBelowFirst m (r ∷ rs) = before m r.1 ≡ true

-- that place of m
pub record IsPlaceOf (m : Ratio) (rs : List (ℕ × Ratio)) (place : ℕ) : Type 0 where
  pub behind : AllByRecursion (λ r. up_to r.1 m ≡ true) (take place rs)
  pub ahead : IsBelowFirst m (drop place rs)

-- there are k rows, and all have approaches below m
pub record AreAllBelow (k : ℕ) (m : Ratio) (rs : List (ℕ × Ratio)) : Type 0 where
  pub full : length rs ≡ k
  pub below : AllByRecursion (λ r. before r.1 m ≡ true) rs

-- the trip has an approach, which is m
abbrev pub IsItsApproach : Asked → Option TripOf → Ratio → Type 0
IsItsApproach asked None m = ⊥
IsItsApproach asked (Some trip) m = IsApproach (given_at plane_value_of (Slices trip)) (given_at plane_value_of asked) (Some m)

-- one more row: k rows are nearer than any approach that it may have, or it has one and is put
-- among the nearest, of which the first k remain
abbrev pub IsConsidered : ℕ → ℕ → (Ratio → Type 0) → List (ℕ × Ratio) → List (ℕ × Ratio) → Type 0
IsConsidered k row its old new = (((m : Ratio) → its m → AreAllBelow k m old) × (new ≡ old)) ⊎ ((m : Ratio) × its m × (new ≡ take k (put_in (row, m) old)))
