use Rattle.mob_slice.proofs.Wholes.{two_instants_fix}
use Rattle.mob_slice.proofs.laws.two_instants.Goals as goal

pub returns : goal.returns
returns g c = record { fixed = two_instants_fix g.met.C.Course.laws }
