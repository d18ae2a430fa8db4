-- What `--wide` changes for mobthin.
use Rattle.std.specs.Prelude.{◌≡◌, ℕ, List, true, false}
use Rattle.mob_slice.specs.declared.formula.Formula.{Formula}
use Rattle.mob_value.specs.declared.value.Value.{Value}
use Rattle.mob_thin_run.{specs.ThinProgram.{thin_program}, specs.declared.settings.ThinSettings.{ThinSettings}}

-- the two differ in the option alone
pub record AsksForWideTable (one other : ThinSettings) : Type 0 where
  pub within : one.within ≡ other.within
  pub epoch : one.epoch ≡ other.epoch
  pub without : one.wide ≡ false
  pub asks : other.wide ≡ true

-- no row stops a run with the option
abbrev pub WideStopsNowhere : Type 0
WideStopsNowhere = (settings : ThinSettings) (rows : List (List Value)) (names : List ℕ) (f : Formula) → settings.wide ≡ true → thin_program.stops settings rows names f → ⊥

-- and it has a text wherever one without the option has one
abbrev pub WideWritesTheSameTable : Type 0
WideWritesTheSameTable = (one other : ThinSettings) (rows : List (List Value)) (text : List ℕ) → AsksForWideTable one other → thin_program.writes one rows text → thin_program.writes other rows text

-- rows have one text
abbrev pub HasOneThinText : Type 0
HasOneThinText = (settings : ThinSettings) (rows : List (List Value)) (a b : List ℕ) → thin_program.writes settings rows a → thin_program.writes settings rows b → a ≡ b
