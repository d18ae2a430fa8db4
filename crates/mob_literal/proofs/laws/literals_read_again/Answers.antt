use Rattle.mob_literal.{proofs.BehindPrefixes.{behind_prefixes}, proofs.Drawn.{lawful}}
use Rattle.mob_slice.specs.CourseOf.{course_of}
use Rattle.mob_literal.proofs.laws.literals_read_again.Goals as goal

pub returns : goal.returns
returns g c = record {
  again = λ day v before front r are level.
      behind_prefixes (course_of g.C.Course g.T.Base.BaseValue.is_same)
      (lawful g.T.Base.BaseValue.is_same g.met.T.Base.BaseValue.exact g.met.C.Course.laws) day g.T.WrittenValue.HAS_SRID g.T.WrittenValue.shape g.met.T.WrittenValue.exact.has_byte g.T.Base.Printed.text g.T.WrittenValue.has_value v r before front are level;
}
