-- The program mobtile.
use Rattle.std.specs.Prelude.{◌≡◌, ◌∷◌, ℕ, List, [], codes, map}
use Rattle.mob_slice.specs.declared.formula.Formula.{Formula}
use Rattle.mob_outside.specs.EndsSeen.{StreamSeen}
use Rattle.mob_list.{specs.declared.fault.Fault.{Fault}, specs.declared.fault.Fault.TheVariants.{Because, NoMemory}}
use Rattle.mob_pairs.specs.declared.fault.PairCause.{PairCause}
use Rattle.mob_trips.{specs.Endings.{IsTripsEnding}, specs.Program.{ProgramOf}, specs.Rows.{id_of, trips_in}, specs.Seen.{trips_seen}, specs.declared.ending.TripsEnding.{TripsEnding}}
use Rattle.mob_tile_run.{specs.CommandLine.{TileSays}, specs.TileAnswers.{TileWrites, TileFails}, specs.declared.settings.TileSettings.{TileSettings}}
use Rattle.mob_pairs.specs.declared.fault.PairCause.TheVariants as pair
use Rattle.mob_trips.specs.declared.ending.TripsEnding.TheVariants as end

-- It writes the parts of trips in tiles or, with a distance, the pairs that come within it. A
-- formula with a part that does not fit stops it, and rows with more than 10,000 tiles exceed its
-- limit; if there is no such fault, it has a text.
abbrev pub tile_program : ProgramOf TileSettings
tile_program = record {
  says = TileSays;
  day = λ settings. settings.epoch;
  writes = λ settings rows text. TileWrites settings (map id_of rows) (trips_in rows) text;
  stops = λ settings rows names formula. TileFails settings (trips_in rows) (Because (pair.Passed names formula));
  limits = λ settings rows names. (row : ℕ) × (names ≡ row ∷ []) × TileFails settings (trips_in rows) (Because (pair.Limit row));
  fits = λ settings rows. ((names : List ℕ) (formula : Formula) → TileFails settings (trips_in rows) (Because (pair.Passed names formula)) → ⊥) × ((row : ℕ) → TileFails settings (trips_in rows) (Because (pair.Limit row)) → ⊥);
}

-- the ending for a fault: its rows with the formula, a row beyond the limit, or out of memory
abbrev pub TileEndsAt : Fault PairCause → TripsEnding → Type 0
TileEndsAt (Because (pair.Passed rows formula)) ending = ending ≡ end.Overflow rows formula
TileEndsAt (Because (pair.Limit row)) ending = ending ≡ end.RowsRefused (row ∷ [])
TileEndsAt NoMemory ending = ending ≡ end.NoMemory

-- the ending of a run on these streams, if its arguments give these settings
abbrev pub TileEnds : TileSettings → StreamSeen → StreamSeen → TripsEnding → Type 0
TileEnds settings table out ending = (words : List (List ℕ)) → TileSays words settings → IsTripsEnding tile_program ending (trips_seen words table out)

-- the line for arguments that are not accepted
abbrev pub tile_usage : List ℕ
tile_usage = codes "usage: mobtile --size S --width W [--near D] [--workers N] [--epoch DATE] < trips.csv\n"
