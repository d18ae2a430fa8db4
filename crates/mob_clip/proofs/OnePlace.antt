-- The operators on boxes and polygons have one value.
use Rattle.std.proofs.Common.{◌≡◌, Bool, sym, ap, ◌∙◌, true}
use Rattle.mob_slice.{specs.Slices.{value_at}, specs.Lines.{plane_value_of}, specs.CourseOf.{plane_course}}
use Rattle.mob_value.{specs.declared.value.Value.{Value}, specs.declared.value.Value.TheVariants.{MovingPoint, Polygon, Box, Null}, specs.ValueBoxes.{OnBox}, specs.Truths.{IsTruthOf}}
use Rattle.mob_value.{proofs.ValueBoxes.{one_value_box}, proofs.OneValue.{or_null_once, says_once, Once, on_box_once}}
use Rattle.mob_cells.specs.Restricted.{where_wanted}
use Rattle.mob_plane.specs.Membership.{inside}
use Rattle.mob_stbox.specs.Boxes.{in_box, BoxesMeet}
use Rattle.mob_lift.proofs.ByCourse.{one_of_points}
use Rattle.mob_clip.{specs.Sql.Boxes.{IsBoxRestriction, IsStBox, IsExpansion, moved_outward, IsOverlap}, specs.Sql.Polygons.{IsPolygonRestriction, IsIntersecting}, specs.Polygons.{IsEverInside}}

pub stbox_once : (a : Value) → Once (IsStBox a)
stbox_once (MovingPoint a) v w h k = h.2 ∙ ap Box (one_value_box a h.0 k.0 h.1 k.1) ∙ sym k.2
stbox_once _ v w h k = h ∙ sym k

pub expansion_once : (a d : Value) → Once (IsExpansion a d)
expansion_once a d v w h k = on_box_once a (λ b v. v ≡ moved_outward b d) (λ v. v ≡ Null) (λ b v w h k. h ∙ sym k) (λ v w h k. h ∙ sym k) v w h k

pub overlap_once : (a b : Value) → Once (IsOverlap a b)
overlap_once a b v w h k = on_box_once a (λ one v. OnBox b (λ other. IsTruthOf true (BoxesMeet one other) v) (v ≡ Null)) (λ v. v ≡ Null)
    (λ one. on_box_once b (λ other v. IsTruthOf true (BoxesMeet one other) v) (λ v. v ≡ Null) (λ other. says_once true (BoxesMeet one other)) (λ v w h k. h ∙ sym k)) (λ v w h k. h ∙ sym k) v w h k

pub in_box_once : (want : Bool) (a b : Value) → Once (IsBoxRestriction want a b)
in_box_once want (MovingPoint a) (Box b) v w h k = or_null_once plane_course one_of_points MovingPoint (λ t. where_wanted want (λ p. in_box b t p) (value_at plane_value_of a t)) v w h k
in_box_once want _ _ v w h k = h ∙ sym k

pub in_polygon_once : (want : Bool) (a b : Value) → Once (IsPolygonRestriction want a b)
in_polygon_once want (MovingPoint a) (Polygon rings) v w h k = or_null_once plane_course one_of_points MovingPoint (λ t. where_wanted want (λ p. inside rings p) (value_at plane_value_of a t)) v w h k
in_polygon_once want _ _ v w h k = h ∙ sym k

pub intersecting_once : (a b : Value) → Once (IsIntersecting a b)
intersecting_once (MovingPoint a) (Polygon rings) v w h k = says_once true (IsEverInside rings a) v w h k
intersecting_once _ _ v w h k = h ∙ sym k
