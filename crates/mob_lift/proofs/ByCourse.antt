-- Normal lists of slices that are one function of time are one list, by the course of their values.
use Rattle.std.{specs.Prelude.{IsTrue, ◌↔◌}, proofs.Common.{◌≡◌, Bool, false}}
use Rattle.mob_slice.{specs.CourseOf.{steady_course, line_course, plane_course}, specs.LineLaws.{line_laws}, specs.PlaneLaws.{plane_laws}, specs.SteadyLaws.{steady_laws}}
use Rattle.mob_lift.proofs.Unique.{OneList, unique}

-- this holds for steps, for linear numbers, and for points
pub one_of_steps : {B : Type 0} (is_same : B → B → Bool) → ((a b : B) → IsTrue (is_same a b) ↔ (a ≡ b)) → OneList (steady_course is_same)
one_of_steps is_same exact = unique (steady_laws false is_same exact)

pub one_of_lines : OneList line_course
one_of_lines = unique line_laws

pub one_of_points : OneList plane_course
one_of_points = unique plane_laws
