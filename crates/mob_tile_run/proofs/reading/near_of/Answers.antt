use Rattle.std.proofs.Common.{refl}
use Rattle.mob_tile_run.proofs.reading.near_of.Goals as goal

pub returns-in-Some-distance_in-clause-some : goal.returns-in-Some-distance_in-clause-some
returns-in-Some-distance_in-clause-some c = rw c.in-Some.is (c.in-Some-distance_in.near, refl, c.in-Some-distance_in.ensures.some)
