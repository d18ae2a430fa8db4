-- The promises of a run: what its status means, and which status it must have.
use Rattle.std.{specs.Prelude.{◌≡◌, ◌⊎◌, ◌≤◌, ℕ, List, Some}, specs.Io.KnownBytes.{Keeps}}
use Rattle.mob_ast.specs.declared.refusal.Kind.{Kind}
use Rattle.mob_slice.specs.declared.formula.Formula.{Formula}
use Rattle.mob_catalog.{specs.declared.fault.FileFault.{FileFault}, specs.TableFile.{file_limit}}
use Rattle.mob_outside.{specs.Faults.{Rose}, specs.Streams.{ReadsPart}}
use Rattle.mob_trips.{specs.Endings.{WritesAll, CutsShort, IsTableRefused, PassLimit, StopsAt, IsTripsCause}, specs.Lines.{trips_note, trips_status}, specs.Program.{ProgramOf, IsUntaken, OnRows}}
use Rattle.mob_trips.{specs.Reading.{IsTripTableRefused}, specs.Seen.{TripsSeen}, specs.declared.ending.TripsEnding.{TripsEnding}}

-- no count of faults rose
pub record IsTripsFaultless (s : TripsSeen) : Type 0 where
  pub read : Rose s.table.faults_before s.table.faults_now → ⊥
  pub put : Rose s.out.faults_before s.out.faults_now → ⊥

-- the status and the note belong to this ending
pub record EndsTrips (usage : List ℕ) (ending : TripsEnding) (status : ℕ) (Noted : List ℕ → Type 0) : Type 0 where
  pub number : status ≡ trips_status ending
  pub noted : Noted (trips_note usage ending)

module _ {Settings : Type 0} (p : ProgramOf Settings) where
  -- the note is the line of the ending with this status and its cause
  pub record IsTripsNote (usage : List ℕ) (status : ℕ) (s : TripsSeen) (Noted : List ℕ → Type 0) : Type 0 where
    pub ending : TripsEnding
    pub cause : IsTripsCause p ending s
    pub ends : EndsTrips usage ending status Noted

  -- the arguments have settings, the table is visible, and this holds of them
  abbrev pub OnTold : TripsSeen → (Settings → List ℕ → Type 0) → Type 0
  OnTold s P = (settings : Settings) × p.says s.words settings × (bytes : List ℕ) × (s.table.told_before ≡ Some bytes) × P settings bytes

  -- What holds of a run with this status, by what was seen of it and of its note.
  pub record IsTripsRun (line : List ℕ) (status : ℕ) (s : TripsSeen) (Noted : List ℕ → Type 0) : Type 0 where
    -- 0: the table was read to its end and accepted, and the text for it was written whole
    pub written : status ≡ 0 → WritesAll p s
    -- 2: exactly if the arguments are not accepted, apart from out of memory
    pub usage : status ≡ 2 → IsUntaken p s.words
    pub exactly_usage : IsUntaken p s.words → (status ≡ 2) ⊎ (status ≡ 5)
    -- 3 and 4: only if the count of the table, or of `out`, rose; under 4 the table was read to its
    -- end, and `out` took a proper prefix of the text
    pub read_fault : status ≡ 3 → Rose s.table.faults_before s.table.faults_now
    pub write_fault : status ≡ 4 → CutsShort p s
    -- 6: only if the table is refused, or rows exceed a limit
    pub refused : status ≡ 6 → ((kind : Kind) × (rec : ℕ) × (field : ℕ) × IsTableRefused p s kind rec field) ⊎ ((names : List ℕ) × PassLimit p s names)
    -- 8: only if a part of a formula does not fit for these rows
    pub overflow : status ≡ 8 → (names : List ℕ) × (formula : Formula) × StopsAt p s names formula
    -- under every status but 0 and 4 nothing is written, and under 2 nothing is read
    pub silent : (status ≡ 0 → ⊥) → (status ≡ 4 → ⊥) → Keeps s.out.told_before s.out.told_now
    pub untouched : status ≡ 2 → Keeps s.table.told_before s.table.told_now
    -- The other way round, if no count rose and the table is visible; out of memory is always
    -- possible.
    pub must_refuse : IsTripsFaultless s → OnTold s (λ settings bytes. (w : FileFault) × IsTripTableRefused (p.day settings) bytes w) → (status ≡ 6) ⊎ (status ≡ 5)
    pub answered : IsTripsFaultless s → OnTold s (OnRows p p.fits) → (status ≡ 0) ⊎ (status ≡ 5)
    -- under every status: at most one byte past the limit is read, and no count falls
    pub reads : ReadsPart file_limit s.table.told_before s.table.told_now
    pub read_later : s.table.faults_before ≤ s.table.faults_now
    pub put_later : s.out.faults_before ≤ s.out.faults_now
    -- the note is the line of the ending with this status and this cause
    pub note : IsTripsNote line status s Noted

  -- The other way round if the program is exact on the arguments, no count rose and the table is
  -- visible; out of memory is always possible.
  pub record IsExactRun (status : ℕ) (s : TripsSeen) : Type 0 where
    pub must_limit : IsTripsFaultless s → OnTold s (OnRows p (λ settings rows. (names : List ℕ) × p.limits settings rows names)) → (status ≡ 6) ⊎ (status ≡ 5)
    pub must_stop : IsTripsFaultless s → OnTold s (OnRows p (λ settings rows. (names : List ℕ) × (formula : Formula) × p.stops settings rows names formula)) → (status ≡ 8) ⊎ (status ≡ 5)
