-- The cause of each ending.
use Rattle.std.{specs.Prelude.{◌≡◌, ◌⊎◌, ◌≤◌, ◌+◌, ℕ, List, [], ◌∷◌, length}, specs.Io.KnownBytes.{Appends, Consumes, IsAtEnd, Keeps}}
use Rattle.mob_ast.specs.declared.refusal.Kind.{Kind}
use Rattle.mob_slice.specs.declared.formula.Formula.{Formula}
use Rattle.mob_value.specs.declared.value.Value.{Value}
use Rattle.mob_catalog.{specs.Faults.{file_fault}, specs.TableFile.{file_limit}}
use Rattle.mob_outside.{specs.Faults.{Rose}, specs.Streams.{PutsPart, ReadsPart}}
use Rattle.mob_trips.{specs.Program.{ProgramOf, IsUntaken, OnTable, OnRows}, specs.Reading.{IsTripTableRefused}, specs.Seen.{TripsSeen}, specs.declared.ending.TripsEnding.{TripsEnding}}
use Rattle.mob_list.specs.declared.fault.Fault.{Fault}
use Rattle.mob_list.specs.declared.fault.Fault.TheVariants as fault
use Rattle.mob_trips.specs.declared.ending.TripsEnding.TheVariants.{Done, Usage, ReadFault, WriteFault, NoMemory, TableRefused, RowsRefused, Overflow}

module _ {Settings : Type 0} (p : ProgramOf Settings) where
  -- the table was read to its end, and the text for it was written whole
  pub record WritesAll (s : TripsSeen) : Type 0 where
    pub ended : IsAtEnd s.table.told_now
    pub text : List ℕ
    pub is : OnTable p s (OnRows p (λ settings rows. p.writes settings rows text))
    pub whole : Appends s.out.told_before s.out.told_now text

  -- the table was read to its end, a proper prefix of the text for it was written, and the count of
  -- `out` rose
  pub record CutsShort (s : TripsSeen) : Type 0 where
    pub ended : IsAtEnd s.table.told_now
    pub text : List ℕ
    pub is : OnTable p s (OnRows p (λ settings rows. p.writes settings rows text))
    pub part : PutsPart text s.out.told_before s.out.told_now
    pub rose : Rose s.out.faults_before s.out.faults_now

  -- the table is refused, at this record and field; it was read to its end, or to one byte past the
  -- limit
  pub record IsTableRefused (s : TripsSeen) (kind : Kind) (rec field : ℕ) : Type 0 where
    pub bytes : List ℕ
    pub taken : Consumes s.table.told_before s.table.told_now bytes
    pub through : IsAtEnd s.table.told_now ⊎ (length bytes ≡ file_limit + 1)
    pub refused : OnTable p s (λ settings bytes. IsTripTableRefused (p.day settings) bytes (file_fault kind rec field))

  -- the table was read to its end, and these rows exceed a limit, or have a part of this formula
  -- that does not fit
  pub record PassLimit (s : TripsSeen) (names : List ℕ) : Type 0 where
    pub ended : IsAtEnd s.table.told_now
    pub fault : OnTable p s (OnRows p (λ settings rows. p.limits settings rows names))

  pub record StopsAt (s : TripsSeen) (names : List ℕ) (formula : Formula) : Type 0 where
    pub ended : IsAtEnd s.table.told_now
    pub fault : OnTable p s (OnRows p (λ settings rows. p.stops settings rows names formula))

  -- The cause of an ending. Something is written only under `Done` and `WriteFault`, and under
  -- `Usage` nothing is read.
  abbrev pub IsTripsCause : TripsEnding → TripsSeen → Type 0
  IsTripsCause Done s = WritesAll s
  IsTripsCause Usage s = IsUntaken p s.words × Keeps s.table.told_before s.table.told_now × Keeps s.out.told_before s.out.told_now
  IsTripsCause ReadFault s = Rose s.table.faults_before s.table.faults_now × Keeps s.out.told_before s.out.told_now
  IsTripsCause WriteFault s = CutsShort s
  IsTripsCause NoMemory s = Keeps s.out.told_before s.out.told_now
  IsTripsCause (TableRefused kind rec field) s = IsTableRefused s kind rec field × Keeps s.out.told_before s.out.told_now
  IsTripsCause (RowsRefused rows) s = PassLimit s rows × Keeps s.out.told_before s.out.told_now
  IsTripsCause (Overflow rows formula) s = StopsAt s rows formula × Keeps s.out.told_before s.out.told_now

  -- What holds of every ending: it has its cause; it is usage, or out of memory, if the arguments
  -- are not accepted; at most one byte past the limit is read, and counts do not fall.
  pub record IsTripsEnding (ending : TripsEnding) (s : TripsSeen) : Type 0 where
    pub cause : IsTripsCause ending s
    pub usage : IsUntaken p s.words → (ending ≡ Usage) ⊎ (ending ≡ NoMemory)
    pub read : ReadsPart file_limit s.table.told_before s.table.told_now
    pub read_later : s.table.faults_before ≤ s.table.faults_now
    pub put_later : s.out.faults_before ≤ s.out.faults_now

  -- the ending of a run that has read its rows and has no text for them
  abbrev pub EndsOn : Settings → List (List Value) → TripsEnding → Type 0
  EndsOn settings rows (RowsRefused names) = p.limits settings rows names
  EndsOn settings rows (Overflow names formula) = p.stops settings rows names formula
  EndsOn settings rows NoMemory = Unit {0}
  EndsOn settings rows ending = ⊥

-- the ending for a fault of a row: that row with its formula, or out of memory
abbrev pub EndsAt : Fault (ℕ × Formula) → TripsEnding → Type 0
EndsAt (fault.Because f) ending = ending ≡ Overflow (f.0 ∷ []) f.1
EndsAt fault.NoMemory ending = ending ≡ NoMemory
