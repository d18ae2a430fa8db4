-- The slice on a span that a call returns.
use Rattle.std.specs.Prelude.{List, Result, MatchResult}
use Rattle.mob_ratio.specs.Ratio.{Ratio}
use Rattle.mob_frac.specs.Formula.{AllFit}
use Rattle.mob_span.specs.Span.{SpanOf}
use Rattle.mob_slice.{specs.Cut.{slice_value, slice_parts}, specs.Look.{IsLookFault}, specs.Sides.{HasValues, at_ends}, specs.declared.course.Course.{Ghosts as CourseMembers}}
use Rattle.mob_slice.{specs.declared.slice.Slice.{Slice}, specs.declared.formula.Formula.{Formula}}
use Rattle.mob_list.specs.declared.fault.Fault.{Fault}

-- The slice with the values f on the span r, if all parts of F1 at the ends of r fit, or an error
-- with its cause. `c` has the functions of the course.
abbrev pub IsSliceOn : {C B : Type 0} → CourseMembers C B → (Ratio → B) → (Ratio → List Ratio) → SpanOf → Result (Slice C) (Fault Formula) → Type 0
IsSliceOn c f parts r result = MatchResult result (λ s. HasValues c.value_of c.start_of c.end_of f r s × AllFit (at_ends parts r)) (IsLookFault c.copy_allocates (at_ends parts r))

-- the same for the slice s on a part r of its span
abbrev pub IsCutOn : {C B : Type 0} → CourseMembers C B → Slice C → SpanOf → Result (Slice C) (Fault Formula) → Type 0
IsCutOn c s r result = IsSliceOn c (slice_value c.value_of s) (slice_parts c.parts_of s) r result
