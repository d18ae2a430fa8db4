-- Temporal values as values of SQL: slices by the course of their values, and functions of time.
use Rattle.std.specs.Prelude.{◌≡◌, List, Option, Some, None, MatchOption}
use Rattle.mob_ratio.specs.Ratio.{Ratio}
use Rattle.mob_plane.specs.declared.point.Point.{Point}
use Rattle.mob_slice.{specs.CourseOf.{CourseOf}, specs.Lines.{line_value_of, plane_value_of}, specs.Operands.{steady_value}, specs.Slices.{value_at, IsNormal}, specs.declared.line.Line.{Line}}
use Rattle.mob_slice.{specs.declared.line.PlaneLine.{PlaneLine}, specs.declared.slice.Slice.{Slice}, specs.declared.steady.Steady.{Steady}}
use Rattle.mob_value.{specs.declared.value.Value.{Value}, specs.declared.value.Value.TheVariants.{Null}}

-- a list of slices that change in steps
abbrev pub SteadySlices : Type 0 → Type 0
SteadySlices B = List (Slice (Steady B))

-- the value at each instant, if there is one
abbrev pub OverTime : Type 0 → Type 0
OverTime B = Ratio → Option B

-- temporal values as functions of time
abbrev pub step_function : {B : Type 0} → SteadySlices B → OverTime B
step_function slices t = value_at steady_value slices t

abbrev pub line_function : List (Slice Line) → OverTime Ratio
line_function slices t = value_at line_value_of slices t

abbrev pub plane_function : List (Slice PlaneLine) → OverTime Point
plane_function slices t = value_at plane_value_of slices t

-- the slices are normal, by the course of their values
abbrev pub AreNormalBy : {C B : Type 0} → CourseOf C B → List (Slice C) → Type 0
AreNormalBy course slices = IsNormal course.start course.end course.continues slices

-- a value as one of SQL, or NULL if there is none
abbrev pub or_nothing : {X : Type 0} → (X → Value) → Option X → Value
or_nothing make None = Null
or_nothing make (Some x) = make x

-- v is the one normal value that is the function f of time
abbrev pub IsFunction : {C B : Type 0} → CourseOf C B → (List (Slice C) → Value) → OverTime B → Value → Type 0
IsFunction {C} course make f v = (r : List (Slice C)) × ((t : Ratio) → value_at course.value r t ≡ f t) × AreNormalBy course r × (v ≡ make r)

-- v is the one normal value that satisfies P, or NULL if there is none
abbrev pub IsFunctionOrNull : {C B : Type 0} → CourseOf C B → (List (Slice C) → Value) → (Option (List (Slice C)) → Type 0) → Value → Type 0
IsFunctionOrNull {C} course make P v = (r : Option (List (Slice C))) × P r × MatchOption r (Unit {0}) (AreNormalBy course) × (v ≡ or_nothing make r)
