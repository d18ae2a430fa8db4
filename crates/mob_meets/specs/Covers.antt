-- Boxes over places at instants, and the box by which a value is searched for.
use Rattle.std.specs.Prelude.{◌≡◌, true, Option, Some, None, IfSome}
use Rattle.mob_ratio.specs.Ratio.{Ratio}
use Rattle.mob_plane.{specs.Corners.{all_points, AreCorners}, specs.Rings.{are_sound}, specs.declared.point.Point.{Point as PointOf}}
use Rattle.mob_stbox.{specs.Areas.{area_between}, specs.Boxes.{BoxOf, InBox}}
use Rattle.mob_value.{specs.ValueBoxes.{HasBox}, specs.declared.value.Value.{Value}, specs.declared.value.Value.TheVariants.{Point, Polygon}}

-- each place, at its instant, is in the box
abbrev pub Covers : (Ratio → Option PointOf) → BoxOf → Type 0
Covers place b = (t : Ratio) → IfSome (place t) (λ p. InBox b t p)

-- the bounding rectangle of two points, at all times
abbrev pub box_between : PointOf → PointOf → BoxOf
box_between p q = record { space = Some (area_between p q); time = None }

-- The box by which a value is searched for: its own, if it has one; for a point the point itself,
-- and for a polygon the bounding rectangle of its corners, both at all times. Other values have
-- none.
abbrev pub IsLookedForBy : Value → BoxOf → Type 0
IsLookedForBy (Point p) b = b ≡ box_between p p
IsLookedForBy (Polygon rings) b = (are_sound rings ≡ true) × (least : PointOf) × (greatest : PointOf) × AreCorners (all_points rings) least greatest × (b ≡ box_between least greatest)
IsLookedForBy v b = HasBox v b
