-- Restrictions, and the instants and coordinates of a value, are one value.
use Rattle.std.{specs.Prelude.{is_some}, proofs.Common.{◌≡◌, Bool, List, Option, Some, None, MatchOption, sym, ap, ◌∙◌, option_map}}
use Rattle.mob_lift.{proofs.Unique.{OneList}, proofs.ByCourse.{one_of_points, one_of_lines, one_of_steps}}
use Rattle.mob_ratio.{specs.Ratio.{Ratio}, specs.Order.{same}, proofs.Order.{same_exact}}
use Rattle.mob_span.{specs.Flags.{same_bool, same_bool_exact}, specs.Sets.{in_some}, specs.Span.{SpanOf}}
use Rattle.mob_slice.{specs.CourseOf.{CourseOf, steady_course, line_course, plane_course}, specs.Sameness.{same_bytes, same_bytes_exact}, specs.Slices.{value_at}, specs.declared.slice.Slice.{Slice}}
use Rattle.mob_slice.{specs.LineComparison.{point_relates, number_relates}, specs.declared.comparison.Rel.TheVariants.{Eq}}
use Rattle.mob_value.specs.declared.value.Value.{Value}
use Rattle.mob_value.specs.declared.value.Value.TheVariants.{MovingBool, MovingInt, MovingFrac, MovingText, Bool as Truth, Number, Text, Point, MovingPoint, Null, SpanSet}
use Rattle.mob_value.{specs.Moving.{OverTime, line_function, step_function, plane_function}, specs.Relations.{text_relates, truth_relates}, proofs.OneValue.{or_null_once, function_once, Once}}
use Rattle.mob_value.proofs.OneTime.{instants_once}
use Rattle.mob_cells.specs.Restricted.{where_wanted}
use Rattle.mob_plane.specs.declared.point.Point.{Point as PointOf}
use Rattle.mob_restrict.{specs.Sql.ByValue.{IsWhere, IsValueRestriction}, specs.Sql.Times.{IsRestrictionOf, IsRestriction, IsTimeOf, IsDefinedTime}, specs.Sql.Coordinates.{IsCoordinate}}

-- the restriction of slices is one value
restriction_of_once : {C B : Type 0} (course : CourseOf C B) → OneList course → (make : List (Slice C) → Value) (want : Bool) (spans : List SpanOf) (slices : List (Slice C)) → Once (IsRestrictionOf course make want spans slices)
restriction_of_once course one make want spans slices v w h k = or_null_once course one make (λ t. where_wanted want (λ x. in_some spans t) (value_at course.value slices t)) v w h k

pub restriction_once : (want : Bool) (spans : List SpanOf) (a : Value) → Once (IsRestriction want spans a)
restriction_once want spans (MovingBool a) v w h k = restriction_of_once (steady_course same_bool) (one_of_steps same_bool same_bool_exact) MovingBool want spans a v w h k
restriction_once want spans (MovingInt a) v w h k = restriction_of_once (steady_course same) (one_of_steps same same_exact) MovingInt want spans a v w h k
restriction_once want spans (MovingFrac a) v w h k = restriction_of_once line_course one_of_lines MovingFrac want spans a v w h k
restriction_once want spans (MovingText a) v w h k = restriction_of_once (steady_course same_bytes) (one_of_steps same_bytes same_bytes_exact) MovingText want spans a v w h k
restriction_once want spans (MovingPoint a) v w h k = restriction_of_once plane_course one_of_points MovingPoint want spans a v w h k
restriction_once want spans _ v w h k = h ∙ sym k

pub asked_once : (want : Bool) (a : Value) (spans : Option (List SpanOf)) → Once (λ v. MatchOption spans (v ≡ Null) (λ s. IsRestriction want s a v))
asked_once want a None v w h k = h ∙ sym k
asked_once want a (Some spans) v w h k = restriction_once want spans a v w h k

-- and so is a restriction by a test of the value
where_once : {C B : Type 0} (course : CourseOf C B) → OneList course → (make : List (Slice C) → Value) (want : Bool) (test : B → Bool) (slices : List (Slice C)) → Once (IsWhere course make want test slices)
where_once course one make want test slices v w h k = or_null_once course one make (λ t. where_wanted want (λ y. test y) (value_at course.value slices t)) v w h k

pub by_value_once : (want : Bool) (a b : Value) → Once (IsValueRestriction want a b)
by_value_once want (MovingBool a) (Truth x) v w h k = where_once (steady_course same_bool) (one_of_steps same_bool same_bool_exact) MovingBool want (λ y. truth_relates Eq y x) a v w h k
by_value_once want (MovingInt a) (Number x) v w h k = where_once (steady_course same) (one_of_steps same same_exact) MovingInt want (λ y. number_relates Eq y x) a v w h k
by_value_once want (MovingFrac a) (Number x) v w h k = where_once line_course one_of_lines MovingFrac want (λ y. number_relates Eq y x) a v w h k
by_value_once want (MovingText a) (Text x) v w h k = where_once (steady_course same_bytes) (one_of_steps same_bytes same_bytes_exact) MovingText want (λ y. text_relates Eq y x) a v w h k
by_value_once want (MovingPoint a) (Point x) v w h k = where_once plane_course one_of_points MovingPoint want (λ y. point_relates Eq y x) a v w h k
by_value_once want _ _ v w h k = h ∙ sym k

time_of_once : {B : Type 0} (f : OverTime B) → Once (IsTimeOf f)
time_of_once f v w h k = h.2 ∙ ap SpanSet (instants_once (λ t. is_some (f t)) h.0 k.0 h.1 k.1) ∙ sym k.2

pub defined_once : (a : Value) → Once (IsDefinedTime a)
defined_once (MovingBool a) v w h k = time_of_once (step_function a) v w h k
defined_once (MovingInt a) v w h k = time_of_once (step_function a) v w h k
defined_once (MovingFrac a) v w h k = time_of_once (line_function a) v w h k
defined_once (MovingText a) v w h k = time_of_once (step_function a) v w h k
defined_once (MovingPoint a) v w h k = time_of_once (plane_function a) v w h k
defined_once _ v w h k = h ∙ sym k

pub coordinate_once : (coordinate : PointOf → Ratio) (a : Value) → Once (IsCoordinate coordinate a)
coordinate_once coordinate (MovingPoint a) v w h k = function_once line_course one_of_lines MovingFrac (λ t. option_map coordinate (plane_function a t)) v w h k
coordinate_once coordinate _ v w h k = h ∙ sym k
