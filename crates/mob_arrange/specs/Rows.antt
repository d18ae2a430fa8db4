-- The rows of an answer.
use Rattle.std.{specs.Prelude.{◌≡◌, ◌⊎◌, Bool, true, false, ℕ, List, [], ◌∷◌, ◌++◌, map, take, Option, Some, None}, specs.List.{Contains}}
use Rattle.mob_arrange.{specs.Keyed.{Keyed}, specs.Order.{IsOrderedByKeys}}

-- kept are the entries of xs, in order, without those equal to an earlier one, where those of
-- `before` come before all
abbrev pub AreFirst : {X : Type 0} → List X → List X → List X → Type 0
AreFirst before [] kept = kept ≡ []
AreFirst {X} before (x ∷ xs) kept =
    (Contains before x × AreFirst before xs kept)
    ⊎ ((Contains before x → ⊥) × ((rest : List X) × (kept ≡ x ∷ rest) × AreFirst (before ++ x ∷ []) xs rest))

-- the first of equal rows if rows are to be distinct, else all
abbrev pub AreDistinct : {X : Type 0} → Bool → List X → List X → Type 0
AreDistinct true xs kept = AreFirst [] xs kept
AreDistinct false xs kept = kept ≡ xs

-- at most so many from the front, if there is a limit
abbrev pub limited : {X : Type 0} → Option ℕ → List X → List X
limited None xs = xs
limited (Some n) xs = take n xs

-- The rows are sorted by the keys, then made distinct if required, then cut.
pub record AreArranged (falls : List Bool) (distinct : Bool) (limit : Option ℕ) (rows : List Keyed) (answer : List (List (List ℕ))) : Type 0 where
  pub ordered : List Keyed
  pub in_order : IsOrderedByKeys falls rows ordered
  pub kept : List (List (List ℕ))
  pub distinct_rows : AreDistinct distinct (map (λ row. row.fields) ordered) kept
  pub cut : answer ≡ limited limit kept
