use Rattle.std.proofs.Common.{◌≡◌, ◌++◌, drop, string_bytes}
use Rattle.mob_scalar.specs.Brackets.{more_texts}
use Rattle.mob_slice.specs.CourseOf.{course_of}
use Rattle.mob_written.{specs.Printed.{start_text}, specs.Style.{style_of}}
use Rattle.mob_written.proofs.printing.write_starts.Given as goal

-- the text written so far, and the text still to be written
abbrev pub invariant-loop-next : goal.invariant-loop-next
invariant-loop-next g l =
    let style = style_of (course_of g.C.Course g.C.Base.BaseValue.is_same) g.C.Base.Printed.text l.epoch in
    string_bytes l.into ++ more_texts (start_text style) (drop l.next-index l.rest) ≡ string_bytes l.initial.into ++ more_texts (start_text style) l.rest
