-- What `--wide` changes for mobnear.
use Rattle.std.specs.Prelude.{◌≡◌, ℕ, List, true, false}
use Rattle.mob_value.specs.declared.value.Value.{Value}
use Rattle.mob_near_run.{specs.NearProgram.{near_program}, specs.declared.settings.NearSettings.{NearSettings}}

-- the two differ in the option alone
pub record AskForWideRows (one other : NearSettings) : Type 0 where
  pub count : one.k ≡ other.k
  pub epoch : one.epoch ≡ other.epoch
  pub target : one.to ≡ other.to
  pub without : one.wide ≡ false
  pub asks : other.wide ≡ true

-- with the option rows have the text that they have without it
abbrev pub WideWritesTheSameRows : Type 0
WideWritesTheSameRows = (one other : NearSettings) (rows : List (List Value)) (text : List ℕ) → AskForWideRows one other → near_program.writes one rows text → near_program.writes other rows text

-- rows have one text
abbrev pub HasOneNearText : Type 0
HasOneNearText = (settings : NearSettings) (rows : List (List Value)) (a b : List ℕ) → near_program.writes settings rows a → near_program.writes settings rows b → a ≡ b
