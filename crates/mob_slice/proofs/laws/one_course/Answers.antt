use Rattle.mob_slice.proofs.Wholes.{continues_as_one}
use Rattle.mob_slice.proofs.laws.one_course.Goals as goal

pub returns : goal.returns
returns g c = record { one = continues_as_one g.met.C.Course.laws }
