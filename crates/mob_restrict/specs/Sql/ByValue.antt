-- atValues and minusValues: a temporal value at the instants at which it is a given base value, or
-- at the others.
use Rattle.std.specs.Prelude.{◌≡◌, Bool, List}
use Rattle.mob_ratio.specs.Order.{same}
use Rattle.mob_span.specs.Flags.{same_bool}
use Rattle.mob_slice.{specs.CourseOf.{CourseOf, steady_course, line_course, plane_course}, specs.LineComparison.{point_relates, number_relates}, specs.Sameness.{same_bytes}}
use Rattle.mob_slice.{specs.declared.comparison.Rel.TheVariants.{Eq}, specs.declared.slice.Slice.{Slice}}
use Rattle.mob_cells.specs.Restricted.{IsRestricted}
use Rattle.mob_value.{specs.declared.value.Value.{Value}, specs.declared.value.Value.TheVariants.{Null, Bool as Truth, Number, Text, Point, MovingBool, MovingInt, MovingFrac, MovingText, MovingPoint}}
use Rattle.mob_value.{specs.Moving.{IsFunctionOrNull}, specs.Relations.{text_relates, truth_relates}}

-- v is the part of slices where their value passes the test if `want` is true, else the part where
-- it does not: the one normal value, or NULL if no instant is left
abbrev pub IsWhere : {C B : Type 0} → CourseOf C B → (List (Slice C) → Value) → Bool → (B → Bool) → List (Slice C) → Value → Type 0
IsWhere course make want test slices v = IsFunctionOrNull course make (IsRestricted course.value want (λ t y. test y) slices) v

-- atValues if `want` is true, minusValues if it is false: the test is equality with a value of the
-- base type
abbrev pub IsValueRestriction : Bool → Value → Value → Value → Type 0
IsValueRestriction want (MovingBool a) (Truth x) v = IsWhere (steady_course same_bool) MovingBool want (λ y. truth_relates Eq y x) a v
IsValueRestriction want (MovingInt a) (Number x) v = IsWhere (steady_course same) MovingInt want (λ y. number_relates Eq y x) a v
IsValueRestriction want (MovingFrac a) (Number x) v = IsWhere line_course MovingFrac want (λ y. number_relates Eq y x) a v
IsValueRestriction want (MovingText a) (Text x) v = IsWhere (steady_course same_bytes) MovingText want (λ y. text_relates Eq y x) a v
IsValueRestriction want (MovingPoint a) (Point x) v = IsWhere plane_course MovingPoint want (λ y. point_relates Eq y x) a v
IsValueRestriction want _ _ v = v ≡ Null
