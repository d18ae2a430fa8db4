use Rattle.std.{proofs.Common.{rules, arith}, proofs.lemmas.Grind.{common_steps}}
use Rattle.mob_slice.specs.CourseOf.{course_of}
use Rattle.mob_written.{specs.Style.{style_of}, proofs.Groups.{group-alone, groups-braced}}
use Rattle.mob_written.proofs.printing.write_sequences.Goals as goal

pub returns-then-is_group : goal.returns-then-is_group
returns-then-is_group g c = record { written = rw (group-alone (style_of (course_of g.C.Course g.C.Base.BaseValue.is_same) g.C.Base.Printed.text c.args.epoch.now) c.args.slices.now (search rules)) c.write_groups.ensures.written }

pub returns : goal.returns
returns g c = record { written = rw (groups-braced (style_of (course_of g.C.Course g.C.Base.BaseValue.is_same) g.C.Base.Printed.text c.args.epoch.now) c.args.slices.now (search rules)) (grind (arith, common_steps)) }
