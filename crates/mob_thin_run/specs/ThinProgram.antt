-- The program mobthin.
use Rattle.std.{specs.Prelude.{◌≡◌, ◌∷◌, [], ℕ, List, codes}, specs.List.{AllByRecursion}}
use Rattle.mob_slice.specs.Modes.{mode_of}
use Rattle.mob_trips.specs.Program.{ProgramOf}
use Rattle.mob_thin_run.{specs.CommandLine.{ThinSays}, specs.ThinRows.{IsThinText, PassesFirst, RowTestsFit}, specs.declared.settings.ThinSettings.{ThinSettings}}

-- It writes the table with each trip simplified, if all parts of all tests fit; the first row with
-- one that does not fit stops it; no row exceeds a limit. With `--wide` tests have no parts, so no
-- row stops it.
abbrev pub thin_program : ProgramOf ThinSettings
thin_program = record {
  says = ThinSays;
  day = λ s. s.epoch;
  writes = λ s rows text. AllByRecursion (RowTestsFit (mode_of s.wide) s.within) rows × IsThinText s.within s.epoch rows text;
  stops = λ s rows names formula. (row : ℕ) × (names ≡ row ∷ []) × PassesFirst (mode_of s.wide) s.within rows row formula;
  limits = λ s rows names. ⊥;
  fits = λ s rows. AllByRecursion (RowTestsFit (mode_of s.wide) s.within) rows;
}

-- the line for arguments that are not accepted
abbrev pub thin_usage : List ℕ
thin_usage = codes "usage: mobthin --within D [--epoch DATE] [--wide] < trips.csv\n"
