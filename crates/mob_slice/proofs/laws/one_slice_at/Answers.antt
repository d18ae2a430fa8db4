use Rattle.mob_slice.proofs.OneAt.{one_slice_at}
use Rattle.mob_slice.proofs.laws.one_slice_at.Goals as goal

pub returns : goal.returns
returns g c = record { one = one_slice_at g.C.Course.start_of g.C.Course.end_of }
