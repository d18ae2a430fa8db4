-- Operators on boxes: the box of a moving point, boxes that meet, expanded boxes, and the part of a
-- moving point in a box.
use Rattle.std.specs.Prelude.{◌≡◌, Bool, true}
use Rattle.mob_slice.{specs.CourseOf.{plane_course}, specs.Lines.{plane_value_of}}
use Rattle.mob_cells.specs.Restricted.{IsRestricted}
use Rattle.mob_stbox.{specs.Boxes.{BoxOf, BoxesMeet, in_box}, specs.Expansion.{expanded}}
use Rattle.mob_value.{specs.ValueBoxes.{IsBoxOf, OnBox}, specs.declared.value.Value.{Value}, specs.declared.value.Value.TheVariants.{Null, Number, Box, MovingPoint}}
use Rattle.mob_value.{specs.Moving.{or_nothing, IsFunctionOrNull}, specs.Truths.{IsTruthOf}}

-- stbox: the bounding box of a moving point
abbrev pub IsStBox : Value → Value → Type 0
IsStBox (MovingPoint a) v = (b : BoxOf) × IsBoxOf a b × (v ≡ Box b)
IsStBox _ v = v ≡ Null

-- `&&`: whether the boxes of two values meet
abbrev pub IsOverlap : Value → Value → Value → Type 0
IsOverlap a b v = OnBox a (λ one. OnBox b (λ other. IsTruthOf true (BoxesMeet one other) v) (v ≡ Null)) (v ≡ Null)

-- expandSpace: the value's box with each of its sides moved outward, or NULL if no box is left
abbrev pub moved_outward : BoxOf → Value → Value
moved_outward b (Number d) = or_nothing Box (expanded b d)
moved_outward b _ = Null

abbrev pub IsExpansion : Value → Value → Value → Type 0
IsExpansion a d v = OnBox a (λ b. v ≡ moved_outward b d) (v ≡ Null)

-- atStbox if `want` is true, minusStbox if it is false
abbrev pub IsBoxRestriction : Bool → Value → Value → Value → Type 0
IsBoxRestriction want (MovingPoint a) (Box b) v = IsFunctionOrNull plane_course MovingPoint (IsRestricted plane_value_of want (λ t p. in_box b t p) a) v
IsBoxRestriction want _ _ v = v ≡ Null
