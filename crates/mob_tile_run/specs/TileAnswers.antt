-- The answer of mobtile on the rows of a table of trips, and why it may have none.
use Rattle.std.specs.Prelude.{◌≡◌, ◌≤◌, ℕ, ℤ, List, Option, Some, None, map, true, IfSome}
use Rattle.mob_ratio.{specs.Ratio.{Ratio}, specs.Order.{up_to}, specs.Sign.{nil}}
use Rattle.mob_value.specs.declared.value.Value.{Value}
use Rattle.mob_grid.specs.Tiles.{GridOf}
use Rattle.mob_pairs.{specs.Faults.{PairsFit, IsPairsFault}, specs.Pairs.{ArePairs}, specs.declared.fault.PairCause.{PairCause}}
use Rattle.mob_list.specs.declared.fault.Fault.{Fault}
use Rattle.mob_records.specs.AnswerText.{answer_text}
use Rattle.mob_trips.specs.Rows.{Trip}
use Rattle.mob_tile_run.{specs.TileTexts.{pair_fields, pair_names}, specs.TileParts.{PartsText, IsFirstSplitFault}, specs.declared.settings.TileSettings.{TileSettings}}

-- the distance is not negative, and there are 1 to 64 workers
pub record IsUsable (settings : TileSettings) : Type 0 where
  pub distance : IfSome settings.near (λ d. up_to nil d ≡ true)
  pub some_workers : 1 ≤ settings.workers
  pub few_workers : settings.workers ≤ 64

-- the text of the pairs of trips that come within d, if all rows have their ranges and all tests of
-- pairs fit
pub record PairsText (g : GridOf) (d : Ratio) (day : ℤ) (ids : List Value) (trips : List (Option Trip)) (text : List ℕ) : Type 0 where
  pub pairs : List (ℕ × ℕ)
  pub are : ArePairs trips d pairs
  pub fit : PairsFit g d trips
  pub text_is : text ≡ answer_text pair_names (map (pair_fields day ids) pairs)

-- the text for these trips: with a distance that of their pairs, without one that of their parts
abbrev pub TileWritesBy : Option Ratio → TileSettings → List Value → List (Option Trip) → List ℕ → Type 0
TileWritesBy None settings ids trips text = PartsText settings.grid settings.epoch ids trips text
TileWritesBy (Some d) settings ids trips text = PairsText settings.grid d settings.epoch ids trips text

abbrev pub TileWrites : TileSettings → List Value → List (Option Trip) → List ℕ → Type 0
TileWrites settings ids trips text = TileWritesBy settings.near settings ids trips text

-- why there is none
abbrev pub TileFailsBy : Option Ratio → TileSettings → List (Option Trip) → Fault PairCause → Type 0
TileFailsBy None settings trips fault = IsFirstSplitFault settings.grid trips fault
TileFailsBy (Some d) settings trips fault = IsPairsFault settings.grid d trips fault

abbrev pub TileFails : TileSettings → List (Option Trip) → Fault PairCause → Type 0
TileFails settings trips fault = TileFailsBy settings.near settings trips fault

-- the two differ only in the number of workers
pub record AreSameButWorkers (a b : TileSettings) : Type 0 where
  pub grid : a.grid ≡ b.grid
  pub near : a.near ≡ b.near
  pub epoch : a.epoch ≡ b.epoch
