use Rattle.mob_grid.proofs.Ranges.{reach}
use Rattle.mob_tile.proofs.laws.boxes_reach_their_tiles.Goals as goal

pub returns : goal.returns
returns c = record { reach = reach }
