use Rattle.std.proofs.Common.{refl, rules}
use Rattle.mob_slice.specs.CourseOf.{course_of}
use Rattle.mob_literal.proofs.Made.{made_ends, point_included}
use Rattle.mob_literal.proofs.slicing.closed.Goals as goal

pub returns : goal.returns
returns g c =
    let included = point_included c.args.included c.args.last.instant (rw c.in-Some.ensures.ends at c.in-Some.ensures.test) in
    record {
      made = λ step. made_ends (course_of g.C.Course g.C.Base.BaseValue.is_same) step c.args.slices.items c.push.new.self.items c.args.level c.args.included c.args.upper_inc c.args.last (search rules) included (rw (c.in_ok-push.ensures.items, c.in_ok-course.ensures.made, c.in-Some.ensures.ends) refl);
    }
