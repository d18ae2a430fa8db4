-- Normal lists of slices are ordered, and ordered ones are pieces of time in order.
use Rattle.std.{specs.Prelude.{Bool, List, [], ◌∷◌}, specs.List.{AllByRecursion}}
use Rattle.mob_ratio.specs.Ratio.{Ratio}
use Rattle.mob_span.specs.Pieces.{PiecesAreClear}
use Rattle.mob_slice.{specs.Slices.{OfHead, IsSound, IsRisingInTime, IsNormalPair, AreNormal, IsClearOf}, specs.declared.slice.Slice.{Slice}}

head_ordered : {C B : Type 0} (start end : C → B) (continues : C → C → Ratio → Ratio → Ratio → Bool) (s : Slice C) (v : List (Slice C)) → OfHead (IsNormalPair start end continues) s v → OfHead IsClearOf s v
head_ordered start end continues s [] h = tt
head_ordered start end continues s (r ∷ v) h = h.in_order

-- a normal list is ordered
pub ordered : {C B : Type 0} (start end : C → B) (continues : C → C → Ratio → Ratio → Ratio → Bool) (v : List (Slice C)) → AreNormal start end continues v → IsRisingInTime start end v
ordered start end continues [] h = tt
ordered start end continues (s ∷ v) h = (h.0, head_ordered start end continues s v h.1, ordered start end continues v h.2)

-- and an ordered list has spans with instants
pub ordered-clear : {C B : Type 0} (start end : C → B) (v : List (Slice C)) → IsRisingInTime start end v → PiecesAreClear (λ s. s.span) v
ordered-clear start end [] h = tt
ordered-clear start end (s ∷ v) h = (h.0.some, h.1, ordered-clear start end v h.2)

pub all_sound : {C B : Type 0} (start end : C → B) (v : List (Slice C)) → IsRisingInTime start end v → AllByRecursion (IsSound start end) v
all_sound start end [] h = tt
all_sound start end (s ∷ v) h = (h.0, all_sound start end v h.2)
