-- The walk over the pieces of one value.
use Rattle.std.specs.Prelude.{List, map}
use Rattle.mob_span.specs.Span.{SpanOf}
use Rattle.mob_slice.{specs.Sides.{Moves, HoldsSide}, specs.declared.slice.Slice.{Slice}, specs.declared.part.One.{One}}
use Rattle.mob_lift.specs.declared.walks.ones.Ones.{Ones}

-- a piece, as contracts see it
abbrev pub span_and_slice : {C : Type 0} → One C → SpanOf × Slice C
span_and_slice p = (p.span, p.slice.now)

-- the slices of a list, each on its whole span
abbrev pub whole_slices : {C : Type 0} → List (Slice C) → List (SpanOf × Slice C)
whole_slices v = map (λ s. (s.span, s)) v

-- the pieces still to come
abbrev pub ones_left : {C : Type 0} → Ones C → List (SpanOf × Slice C)
ones_left s = whole_slices s.slices.now

-- the slice of a piece is sound and contains its span
abbrev pub HoldsOne : {C X : Type 0} → (C → X) → (C → X) → SpanOf × Slice C → Type 0
HoldsOne start end p = HoldsSide start end (Moves p.1) p.0

-- a walk can always continue
abbrev pub CanWalkOne : {C : Type 0} → Ones C → Type 0
CanWalkOne s = Unit {0}
