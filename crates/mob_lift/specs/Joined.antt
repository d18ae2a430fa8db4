-- The normal form of two neighbouring slices.
use Rattle.std.specs.Prelude.{◌≡◌, Bool, List, [], ◌∷◌, ◌++◌}
use Rattle.mob_ratio.specs.Ratio.{Ratio}
use Rattle.mob_slice.{specs.declared.slice.Slice.{Slice}, specs.Slices.{value_at, OfHead, IsClearOf, IsSound, IsNormalPair, AreNormal}}
use Rattle.mob_lift.{specs.declared.normal.joined.Merged.{Merged}, specs.declared.normal.joined.Merged.TheVariants.{One, Two}}

-- the slice that later ones cannot change
abbrev pub done_of : {C : Type 0} → Merged C → List (Slice C)
done_of (One s) = []
done_of (Two s r) = s ∷ []

-- the slice that the next one may change
abbrev pub last_of : {C : Type 0} → Merged C → Slice C
last_of (One s) = s
last_of (Two s r) = r

-- `done` and `last` together are the normal slices of s and r: they have the same value at each
-- instant and are normal, every slice allowed before s is allowed before them, and every slice
-- allowed after r is allowed after them.
pub record IsJoin {C B : Type 0} (value : C → Ratio → Ratio → Ratio → B) (start end : C → B) (continues : C → C → Ratio → Ratio → Ratio → Bool) (s r : Slice C) (done : List (Slice C)) (last : Slice C) : Type 0 where
  pub keeps : (t : Ratio) → value_at value (done ++ last ∷ []) t ≡ value_at value (s ∷ r ∷ []) t
  pub chained : AreNormal start end continues (done ++ last ∷ [])
  pub front : (p : Slice C) → IsSound start end p → IsNormalPair start end continues p s → OfHead (IsNormalPair start end continues) p (done ++ last ∷ [])
  pub back : (q : Slice C) → IsClearOf r q → IsClearOf last q
