-- atGeometry, minusGeometry and eIntersects: the part of a moving point in a polygon.
use Rattle.std.specs.Prelude.{◌≡◌, Bool, true}
use Rattle.mob_plane.specs.Membership.{inside}
use Rattle.mob_slice.{specs.CourseOf.{plane_course}, specs.Lines.{plane_value_of}}
use Rattle.mob_cells.specs.Restricted.{IsRestricted}
use Rattle.mob_value.{specs.declared.value.Value.{Value}, specs.declared.value.Value.TheVariants.{Null, Polygon, MovingPoint}, specs.Moving.{IsFunctionOrNull}, specs.Truths.{IsTruthOf}}
use Rattle.mob_clip.specs.Polygons.{IsEverInside}

-- atGeometry if `want` is true, minusGeometry if it is false
abbrev pub IsPolygonRestriction : Bool → Value → Value → Value → Type 0
IsPolygonRestriction want (MovingPoint a) (Polygon rings) v = IsFunctionOrNull plane_course MovingPoint (IsRestricted plane_value_of want (λ t p. inside rings p) a) v
IsPolygonRestriction want _ _ v = v ≡ Null

-- eIntersects: whether the point is in the polygon at some instant
abbrev pub IsIntersecting : Value → Value → Value → Type 0
IsIntersecting (MovingPoint a) (Polygon rings) v = IsTruthOf true (IsEverInside rings a) v
IsIntersecting _ _ v = v ≡ Null
