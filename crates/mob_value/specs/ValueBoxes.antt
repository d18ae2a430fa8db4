-- The bounding boxes of values.
use Rattle.std.specs.Prelude.{◌≡◌, true, List, [], ◌∷◌, Some, None, IfSome}
use Rattle.mob_ratio.specs.Ratio.{Ratio}
use Rattle.mob_slice.{specs.Lines.{plane_value_of}, specs.Slices.{value_at}, specs.declared.line.PlaneLine.{PlaneLine}, specs.declared.slice.Slice.{Slice}}
use Rattle.mob_stbox.{specs.Areas.{area_between}, specs.Boxes.{BoxOf, InBox, BoxContains, is_box, is_whole, cover}}
use Rattle.mob_value.{specs.declared.value.Value.{Value}, specs.declared.value.Value.TheVariants.{Box, MovingPoint}}

-- at each instant at which the value is defined, the box contains its position
abbrev pub HasPositions : List (Slice PlaneLine) → BoxOf → Type 0
HasPositions slices b = (t : Ratio) → IfSome (value_at plane_value_of slices t) (λ p. InBox b t p)

-- The box of a value has space and time and contains all positions of the value, each at its
-- instant. Each box that contains them contains this one, so its rectangle is the least closed one
-- and its span the least one.
pub record IsBoxOf (slices : List (Slice PlaneLine)) (b : BoxOf) : Type 0 where
  pub sound : is_box b ≡ true
  pub whole : is_whole b ≡ true
  pub has : HasPositions slices b
  pub least : (d : BoxOf) → HasPositions slices d → BoxContains d b

-- an stbox is its own box, a moving point has the least one that contains it, and no other value
-- has a box
abbrev pub HasBox : Value → BoxOf → Type 0
HasBox (Box b) c = c ≡ b
HasBox (MovingPoint a) c = IsBoxOf a c
HasBox _ c = ⊥

-- P holds for the box of the value, or `none` if it has no box
abbrev pub OnBox : Value → (BoxOf → Type 0) → Type 0 → Type 0
OnBox (Box b) P none = P b
OnBox (MovingPoint a) P none = (b : BoxOf) × IsBoxOf a b × P b
OnBox _ P none = none

-- ---- how it is computed

-- the box of one slice: its span, and the rectangle between its end points
abbrev pub slice_box : Slice PlaneLine → BoxOf
slice_box s = record { space = Some (area_between s.course.from s.course.to); time = Some s.span }

-- the least box that contains b and those of the slices
abbrev pub covered : BoxOf → List (Slice PlaneLine) → BoxOf
covered b [] = b
covered b (s ∷ rest) = covered (cover b (slice_box s)) rest

-- the box of a moving point; an empty list of slices, which no value has, gets an empty box
abbrev pub value_box : List (Slice PlaneLine) → BoxOf
value_box [] = record { space = None; time = None }
value_box (s ∷ rest) = covered (slice_box s) (s ∷ rest)
