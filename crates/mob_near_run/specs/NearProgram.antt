-- The program mobnear.
use Rattle.std.specs.Prelude.{◌≡◌, ◌∷◌, ℕ, List, [], codes, true}
use Rattle.mob_slice.specs.declared.formula.Formula.{Formula}
use Rattle.mob_outside.specs.EndsSeen.{StreamSeen}
use Rattle.mob_trips.{specs.Endings.{IsTripsEnding}, specs.Program.{ProgramOf}, specs.Seen.{trips_seen}, specs.declared.ending.TripsEnding.{TripsEnding}}
use Rattle.mob_near_run.{specs.CommandLine.{NearSays}, specs.NearAnswers.{NearWrites, IsRowPassed}, specs.declared.settings.NearSettings.{NearSettings}}

-- It writes the nearest rows. A row whose approach has a part that does not fit may stop it, and
-- with `--wide` the first record that cannot be printed does; if there is no such row, it has an
-- answer. No row exceeds a limit.
abbrev pub near_program : ProgramOf NearSettings
near_program = record {
  says = NearSays;
  day = λ settings. settings.epoch;
  writes = NearWrites;
  stops = λ settings rows names formula. (row : ℕ) × (names ≡ row ∷ []) × IsRowPassed settings rows row formula;
  limits = λ settings rows names. ⊥;
  fits = λ settings rows. (row : ℕ) (formula : Formula) → IsRowPassed settings rows row formula → ⊥;
}

-- the ending of a run on these streams, if its arguments give these settings
abbrev pub NearEnds : NearSettings → StreamSeen → StreamSeen → TripsEnding → Type 0
NearEnds settings table out ending = (words : List (List ℕ)) → NearSays words settings → IsTripsEnding near_program ending (trips_seen words table out)

-- if the arguments have settings, these ask for approaches of any size
abbrev pub AskForWide : List (List ℕ) → Type 0
AskForWide words = (settings : NearSettings) → NearSays words settings → settings.wide ≡ true

-- the line for arguments that are not accepted
abbrev pub near_usage : List ℕ
near_usage = codes "usage: mobnear --k K --to TEXT [--epoch DATE] [--wide] < trips.csv\n"
