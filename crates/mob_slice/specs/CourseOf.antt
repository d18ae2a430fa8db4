-- The functions of a course in one record, for definitions that need many of them.
use Rattle.std.specs.Prelude.{Bool, true, false}
use Rattle.mob_ratio.{specs.Ratio.{Ratio}, specs.Order.{same}}
use Rattle.mob_plane.{specs.Points.{same_point}, specs.declared.point.Point.{Point}}
use Rattle.mob_slice.{specs.Lines.{line_value_of, line_continued, plane_value_of, plane_continued}, specs.declared.course.Course.{Ghosts as CourseMembers}, specs.declared.line.Line.{Line}}
use Rattle.mob_slice.{specs.declared.line.PlaneLine.{PlaneLine}, specs.declared.steady.Steady.{Steady}, specs.Operands.{steady_value, steady_limit}}

-- whether the course is steady, its value on a span and its limits there, the course with two
-- limits, whether two courses are one, and whether two values are equal
pub record CourseOf (C B : Type 0) : Type 0 where
  pub steady : Bool
  pub value : C → Ratio → Ratio → Ratio → B
  pub start : C → B
  pub end : C → B
  pub make : B → B → C
  pub continues : C → C → Ratio → Ratio → Ratio → Bool
  pub is_same : B → B → Bool

abbrev pub plain_course : {C B : Type 0} → Bool → (C → Ratio → Ratio → Ratio → B) → (C → B) → (C → B) → (B → B → C) → (C → C → Ratio → Ratio → Ratio → Bool) → (B → B → Bool) → CourseOf C B
plain_course steady value start end make continues is_same = record { steady = steady; value = value; start = start; end = end; make = make; continues = continues; is_same = is_same }

-- the course of a type that implements the trait, from its members there
abbrev pub course_of : {C B : Type 0} → CourseMembers C B → (B → B → Bool) → CourseOf C B
course_of c is_same = plain_course c.STEADY c.value_of c.start_of c.end_of c.make c.is_continued is_same

-- the course of values that change in steps
abbrev pub steady_course : {B : Type 0} → (B → B → Bool) → CourseOf (Steady B) B
steady_course is_same = plain_course true steady_value steady_limit steady_limit (λ a b. record { value = a }) (λ c d lower middle upper. is_same c.value d.value) is_same

-- the courses of numbers and of points that change linearly
abbrev pub line_course : CourseOf Line Ratio
line_course = plain_course false line_value_of (λ c. c.from) (λ c. c.to) (λ a b. record { from = a; to = b }) line_continued same

abbrev pub plane_course : CourseOf PlaneLine Point
plane_course = plain_course false plane_value_of (λ c. c.from) (λ c. c.to) (λ a b. record { from = a; to = b }) plane_continued same_point
