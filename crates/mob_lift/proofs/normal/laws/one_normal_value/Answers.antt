use Rattle.mob_lift.proofs.Unique.{unique}
use Rattle.mob_lift.proofs.normal.laws.one_normal_value.Goals as goal

pub returns : goal.returns
returns g c = record { unique = λ v w n m f. unique g.met.C.Course.laws v w n.chained m.chained f }
