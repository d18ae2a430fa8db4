-- The walk over the common pieces of two temporal values, and the facts on them.
use Rattle.std.specs.Prelude.{List}
use Rattle.mob_span.{specs.Meets.{PieceOf}, specs.Walk.{CanWalk, meets_left}}
use Rattle.mob_slice.{specs.Sides.{Moves, HoldsSide}, specs.declared.slice.Slice.{Slice}, specs.declared.part.Pair.{Pair}}
use Rattle.mob_lift.specs.declared.walks.common.Common.{Common}

-- both lists are in order of time
abbrev pub CanAdvance : {A B : Type 0} → Common A B → Type 0
CanAdvance s = CanWalk (λ s. s.span) (λ s. s.span) s.walk

-- a pair, as contracts see it
abbrev pub pair_of : {A B : Type 0} → Pair A B → PieceOf (Slice A) (Slice B)
pair_of p = record { span = p.span; left = p.left.now; right = p.right.now }

-- the common pieces still to come
abbrev pub common_left : {A B : Type 0} → Common A B → List (PieceOf (Slice A) (Slice B))
common_left s = meets_left (λ s. s.span) (λ s. s.span) s.walk

-- the slices of a common piece are sound and contain its span
abbrev pub HoldsPair : {A X B Y : Type 0} → (A → X) → (A → X) → (B → Y) → (B → Y) → PieceOf (Slice A) (Slice B) → Type 0
HoldsPair start end start' end' p = HoldsSide start end (Moves p.left) p.span × HoldsSide start' end' (Moves p.right) p.span
