-- What is read from a table of trips, and what is written.
use Rattle.std.{specs.Prelude.{◌∷◌, [], ℕ, ℤ, List, Option, codes}, specs.Io.KnownBytes.{Appends}}
use Rattle.mob_ast.specs.declared.types.SqlType.TheVariants.{Int, TPoint}
use Rattle.mob_value.specs.declared.value.Value.{Value}
use Rattle.mob_catalog.{specs.Faults.{file_fault}, specs.declared.fault.FileFault.{FileFault}, specs.TableFile.{Column, IsTable, FileFails, file_limit}}
use Rattle.mob_outside.{specs.Faults.{Rose}, specs.Streams.{ReadsTo, PutsPart}}
use Rattle.mob_trips.{specs.declared.ending.TripsEnding.{TripsEnding}, specs.declared.ending.TripsEnding.TheVariants.{Done, ReadFault, WriteFault, NoMemory, TableRefused}}

-- the columns of the table: `id int, trip tgeompoint`, and how many rows it may have
abbrev pub trip_columns : List Column
trip_columns = (codes "id", Int) ∷ (codes "trip", TPoint) ∷ []

abbrev pub row_limit : ℕ
row_limit = 1000000

-- the rows of these bytes, or their first fault
abbrev pub IsTripTable : ℤ → List ℕ → List (List Value) → Type 0
IsTripTable day bytes rows = IsTable trip_columns day row_limit bytes rows

abbrev pub IsTripTableRefused : ℤ → List ℕ → FileFault → Type 0
IsTripTableRefused day bytes w = FileFails trip_columns day row_limit bytes w

-- these rows were read, from bytes that were read to the end
pub record ReadsTable (day : ℤ) (old new : Option (List ℕ)) (rows : List (List Value)) : Type 0 where
  pub bytes : List ℕ
  pub reads : ReadsTo file_limit old new bytes
  pub table : IsTripTable day bytes rows

-- the bytes that were read are refused with this fault
pub record ReadsRefused (day : ℤ) (old new : Option (List ℕ)) (w : FileFault) : Type 0 where
  pub bytes : List ℕ
  pub reads : ReadsTo file_limit old new bytes
  pub refused : IsTripTableRefused day bytes w

-- the ending of a run that reads no table
abbrev pub EndsUnread : ℤ → Option (List ℕ) → Option (List ℕ) → ℕ → ℕ → TripsEnding → Type 0
EndsUnread day old new before now ReadFault = Rose before now
EndsUnread day old new before now NoMemory = Unit {0}
EndsUnread day old new before now (TableRefused kind rec field) = ReadsRefused day old new (file_fault kind rec field)
EndsUnread day old new before now ending = ⊥

-- a text was written, which ends the run
abbrev pub PutsText : List ℕ → Option (List ℕ) → Option (List ℕ) → ℕ → ℕ → TripsEnding → Type 0
PutsText text old new before now Done = Appends old new text
PutsText text old new before now WriteFault = PutsPart text old new × Rose before now
PutsText text old new before now ending = ⊥
