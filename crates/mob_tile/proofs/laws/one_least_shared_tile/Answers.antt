use Rattle.mob_tile.proofs.SharedTiles.{least_is, one_least}
use Rattle.mob_tile.proofs.laws.one_least_shared_tile.Goals as goal

pub returns : goal.returns
returns c = record { least = least_is; one = one_least }
