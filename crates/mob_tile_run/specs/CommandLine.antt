-- The command line of mobtile: five options that take one value each, no help and no version.
use Rattle.std.specs.Prelude.{◌∷◌, [], List, Option, Ok, codes}
use Rattle.clap.specs.Words.{App, Text}
use Rattle.mob_ratio.{specs.Ratio.{Ratio, ◌<ℚ◌}, specs.Sign.{nil}}
use Rattle.mob_numeral.{specs.Numbers.{numbers}, specs.Verdict.{Lit}}
use Rattle.mob_grid.specs.Tiles.{GridOf}
use Rattle.mob_arguments.specs.Arguments.{IsDistance, IsEpoch, IsOptional, IsRequired, IsWorkers, Takes, command_of, option_value}
use Rattle.mob_tile_run.specs.declared.settings.TileSettings.{TileSettings}

-- `mobtile --size S --width W [--near D] [--workers N] [--epoch DATE]`
abbrev pub tile_command : App
tile_command = command_of (codes "mobtile") (codes "size" ∷ codes "width" ∷ codes "near" ∷ codes "workers" ∷ codes "epoch" ∷ []) []

-- a side of the tiles: a number, written like a literal of type numeric, that is positive
abbrev pub IsSide : Text → Ratio → Type 0
IsSide text d = Lit numbers text (Ok d) × (nil <ℚ d)

-- both sides, whose options are required
pub record IsSides (size width : Option Text) (g : GridOf) : Type 0 where
  pub size_is : IsRequired IsSide size g.size
  pub width_is : IsRequired IsSide width g.width

-- the distance within which pairs come; without a value there is none
abbrev pub IsNear : Option Text → Option Ratio → Type 0
IsNear value near = IsOptional IsDistance value near

-- the arguments are accepted and give these settings
pub record TileSays (words : List Text) (settings : TileSettings) : Type 0 where
  pub taken : Takes tile_command words
  pub sides : IsSides (option_value tile_command (codes "size") words) (option_value tile_command (codes "width") words) settings.grid
  pub distance : IsNear (option_value tile_command (codes "near") words) settings.near
  pub count : IsWorkers (option_value tile_command (codes "workers") words) settings.workers
  pub day : IsEpoch (option_value tile_command (codes "epoch") words) settings.epoch
