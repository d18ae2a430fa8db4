-- The description of one program over a table of trips.
use Rattle.std.specs.Prelude.{◌≡◌, ℕ, ℤ, List, Some}
use Rattle.mob_slice.specs.declared.formula.Formula.{Formula}
use Rattle.mob_value.specs.declared.value.Value.{Value}
use Rattle.mob_trips.{specs.Reading.{IsTripTable}, specs.Seen.{TripsSeen}}

-- A program: the settings that arguments give, and the day of their epoch. For the rows of a table:
-- the text that is written for them, the rows at which it stops with a formula that has a part
-- which does not fit, the rows that exceed a limit, and a condition under which there is certainly
-- a text.
pub record ProgramOf (Settings : Type 0) : Type 1 where
  pub says : List (List ℕ) → Settings → Type 0
  pub day : Settings → ℤ
  pub writes : Settings → List (List Value) → List ℕ → Type 0
  pub stops : Settings → List (List Value) → List ℕ → Formula → Type 0
  pub limits : Settings → List (List Value) → List ℕ → Type 0
  pub fits : Settings → List (List Value) → Type 0

-- What must hold for it: arguments have one meaning, and rows that fit have no fault.
pub record IsTripsProgram {Settings : Type 0} (p : ProgramOf Settings) : Type 0 where
  pub one : (words : List (List ℕ)) (a b : Settings) → p.says words a → p.says words b → a ≡ b
  pub fits_stops : (s : Settings) (rows : List (List Value)) (names : List ℕ) (f : Formula) → p.fits s rows → p.stops s rows names f → ⊥
  pub fits_limits : (s : Settings) (rows : List (List Value)) (names : List ℕ) → p.fits s rows → p.limits s rows names → ⊥

-- With these settings it is exact: rows never have two of a text, a limit and a formula. A program
-- that does not visit all rows need not be exact, and one may be exact only with some settings.
pub record IsExactWith {Settings : Type 0} (p : ProgramOf Settings) (settings : Settings) : Type 0 where
  pub written_stops : (rows : List (List Value)) (text names : List ℕ) (f : Formula) → p.writes settings rows text → p.stops settings rows names f → ⊥
  pub written_limits : (rows : List (List Value)) (text names : List ℕ) → p.writes settings rows text → p.limits settings rows names → ⊥
  pub stopped_limits : (rows : List (List Value)) (names others : List ℕ) (f : Formula) → p.stops settings rows names f → p.limits settings rows others → ⊥

-- it is exact with the settings that these arguments give
abbrev pub IsExactOn : {Settings : Type 0} → ProgramOf Settings → List (List ℕ) → Type 0
IsExactOn {Settings} p words = (settings : Settings) → p.says words settings → IsExactWith p settings

-- the arguments are not accepted
abbrev pub IsUntaken : {Settings : Type 0} → ProgramOf Settings → List (List ℕ) → Type 0
IsUntaken {Settings} p words = (settings : Settings) → p.says words settings → ⊥

-- The arguments give settings, and this holds of them and of the bytes of the table, if these are
-- visible.
pub record OnTable {Settings : Type 0} (p : ProgramOf Settings) (s : TripsSeen) (P : Settings → List ℕ → Type 0) : Type 0 where
  pub settings : Settings
  pub says : p.says s.words settings
  pub holds : (bytes : List ℕ) → s.table.told_before ≡ Some bytes → P settings bytes

-- the bytes are a table, and this holds of its rows
abbrev pub OnRows : {Settings : Type 0} → ProgramOf Settings → (Settings → List (List Value) → Type 0) → Settings → List ℕ → Type 0
OnRows p P settings bytes = (rows : List (List Value)) × IsTripTable (p.day settings) bytes rows × P settings rows
