use Rattle.mob_grid.proofs.Ranges.{tile_has, tile_is, in_tile_exact}
use Rattle.mob_tile.proofs.laws.one_tile.Goals as goal

pub returns : goal.returns
returns c = record { some = tile_has; only = tile_is; test = in_tile_exact }
