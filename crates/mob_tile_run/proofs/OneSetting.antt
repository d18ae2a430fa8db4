-- The arguments of a command line give one record of settings.
use Rattle.std.{specs.Prelude.{◌≡◌, List, ℕ, Option, codes}, proofs.Common.{refl}}
use Rattle.mob_ratio.specs.Ratio.{Ratio}
use Rattle.mob_arguments.{specs.Arguments.{IsDistance, IsRequired, option_value}, proofs.Readings.{one_day, one_distance, one_optional, one_ratio, one_required, one_workers}}
use Rattle.mob_grid.specs.Tiles.{GridOf}
use Rattle.mob_tile_run.{specs.CommandLine.{TileSays, IsNear, IsSide, IsSides, tile_command}, specs.declared.settings.TileSettings.{TileSettings}}

one_side : (value : Option (List ℕ)) (a b : Ratio) → IsRequired IsSide value a → IsRequired IsSide value b → a ≡ b
one_side = one_required IsSide (λ text a b h k. one_ratio text a b h.0 k.0)

one_grid : (size width : Option (List ℕ)) (a b : GridOf) → IsSides size width a → IsSides size width b → a ≡ b
one_grid size width a b h k =
    let s = one_side size a.size b.size h.size_is k.size_is in
    let w = one_side width a.width b.width h.width_is k.width_is in
    λ i. record { size = s i; width = w i }

one_near : (value : Option (List ℕ)) (a b : Option Ratio) → IsNear value a → IsNear value b → a ≡ b
one_near = one_optional IsDistance one_distance

same_settings : (a b : TileSettings) → a.grid ≡ b.grid → a.near ≡ b.near → a.workers ≡ b.workers → a.epoch ≡ b.epoch → a ≡ b
same_settings a b g n w e = rw (g, n, w, e) refl

pub one_setting : (words : List (List ℕ)) (a b : TileSettings) → TileSays words a → TileSays words b → a ≡ b
one_setting words a b h k =
    same_settings a b
    (one_grid (option_value tile_command (codes "size") words) (option_value tile_command (codes "width") words) a.grid b.grid h.sides k.sides)
    (one_near (option_value tile_command (codes "near") words) a.near b.near h.distance k.distance)
    (one_workers (option_value tile_command (codes "workers") words) a.workers b.workers h.count k.count)
    (one_day (option_value tile_command (codes "epoch") words) a.epoch b.epoch h.day k.day)
