use Rattle.std.proofs.Common.{◌∙◌, rules}
use Rattle.mob_slice.specs.CourseOf.{course_of}
use Rattle.mob_written.{specs.Printed.{shares_group}, proofs.Groups.{one_group}}
use Rattle.mob_written.proofs.printing.is_group.Goals as goal

pub returns-in-len1-up : goal.returns-in-len1-up
returns-in-len1-up g c = record { value = c.all_neighbours.ensures.value (shares_group (course_of g.C.Course g.C.Base.BaseValue.is_same)) (λ item next passed p. search rules) ∙ one_group (course_of g.C.Course g.C.Base.BaseValue.is_same) c.args.slices.now c.in-len1-up.len_at_least }
