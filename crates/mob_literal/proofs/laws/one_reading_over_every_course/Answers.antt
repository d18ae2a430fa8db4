use Rattle.mob_literal.proofs.OneReading.{one_reading}
use Rattle.mob_literal.proofs.laws.one_reading_over_every_course.Goals as goal

pub returns : goal.returns
returns g c = record { one = λ day. one_reading day g.T.Base.BaseValue.is_same g.met.C.Course.laws g.met.T.WrittenValue.exact g.T.WrittenValue.HAS_SRID g.T.WrittenValue.has_value }
