-- A list of slices at one instant.
use Rattle.std.specs.Prelude.{◌≡◌, ◌↔◌, true, List, [], Option, Some, None, Contains}
use Rattle.mob_ratio.specs.Ratio.{Ratio}
use Rattle.mob_span.{specs.Span.{has}, specs.Pieces.{piece_at}}
use Rattle.mob_slice.{specs.Cut.{slice_parts}, specs.Slices.{IsRisingInTime}, specs.declared.slice.Slice.{Slice}}

-- the slice whose span has the instant t, or none if no span has it
abbrev pub slice_at : {C : Type 0} → List (Slice C) → Ratio → Option (Slice C)
slice_at slices t = piece_at (λ s. s.span) slices t

-- the parts of the formula of the value at t, if a slice is defined there
abbrev pub parts_there : {C : Type 0} → (C → Ratio → Ratio → Ratio → List Ratio) → Ratio → Option (Slice C) → List Ratio
parts_there parts t None = []
parts_there parts t (Some s) = slice_parts parts s t

abbrev pub parts_at : {C : Type 0} → (C → Ratio → Ratio → Ratio → List Ratio) → List (Slice C) → Ratio → List Ratio
parts_at parts slices t = parts_there parts t (slice_at slices t)

-- if slices are ordered and disjoint, the slice at t is the one among them whose span has t
abbrev pub OneSliceAt : {C B : Type 0} → (C → B) → (C → B) → Type 0
OneSliceAt {C} start end = (slices : List (Slice C)) → IsRisingInTime start end slices → (t : Ratio) (s : Slice C) → (slice_at slices t ≡ Some s) ↔ (Contains slices s × (has s.span t ≡ true))
