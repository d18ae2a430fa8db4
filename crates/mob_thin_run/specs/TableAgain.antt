-- When the written file is read again as the table with each trip simplified.
use Rattle.std.{specs.Prelude.{◌≤◌, ℕ, ℤ, List, length}, specs.List.{AllByRecursion}}
use Rattle.mob_ratio.specs.Ratio.{Ratio}
use Rattle.mob_value.{specs.declared.value.Value.{Value}, specs.declared.value.Value.TheVariants.{MovingPoint}}
use Rattle.mob_catalog.specs.TableFile.{IsTable, file_limit}
use Rattle.mob_simplify.specs.BreaksOf.{printed_instants}
use Rattle.mob_thin_run.specs.ThinRows.{AreThinRows, IsThinText}
use Rattle.mob_trips.specs.Reading.{trip_columns}

-- a trip prints at most 100,000 instants; other values are free
abbrev pub IsPrintable : Value → Type 0
IsPrintable (MovingPoint slices) = printed_instants slices ≤ 100000
IsPrintable v = Unit {0}

-- The text that is written for a table is read again as its rows with each trip simplified, if no
-- trip of the table prints more than 100,000 instants, and the text is no longer than a table file
-- may be.
abbrev pub ReadsTableAgain : Type 0
ReadsTableAgain = (d : Ratio) (day : ℤ) (room : ℕ) (bytes : List ℕ) (rows : List (List Value)) (text : List ℕ) → IsTable trip_columns day room bytes rows → AllByRecursion (AllByRecursion IsPrintable) rows
    → IsThinText d day rows text → length text ≤ file_limit → (thin : List (List Value)) × AreThinRows d rows thin × IsTable trip_columns day room text thin
