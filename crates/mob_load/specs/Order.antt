-- The order in which a script is checked.
use Rattle.std.{specs.Prelude.{◌≡◌, ◌++◌, ◌∷◌, List, [], map, filter}, specs.List.{flat_map}}
use Rattle.mob_typed.{specs.declared.typed.ConstText.{ConstText}, specs.Statements.{ScriptOut}, specs.Written.{IsWritten}}
use Rattle.mob_load.{specs.Checks.{CheckParts, Checkpoint, literal, checkpoints_from, checks_of, stands_before}, specs.Loads.{literals_in}}

-- a check other than a literal
abbrev pub checkpoint_in : CheckParts → List CheckParts
checkpoint_in (literal c) = []
checkpoint_in check = check ∷ []

abbrev pub checkpoints_in : List CheckParts → List CheckParts
checkpoints_in checks = flat_map checkpoint_in checks

-- besides the literals, each checkpoint of a script is checked once, in written order
abbrev pub LooksAtCheckpoints : Type 0
LooksAtCheckpoints = (out : ScriptOut) → checkpoints_in (checks_of out) ≡ map (λ m. m.check) (checkpoints_from 1 out.statements)

-- The checks before a checkpoint: the checkpoints before it, and exactly the literals before it in
-- the script.
pub record IsCutAt (checks : List CheckParts) (before : List Checkpoint) (m : Checkpoint) (literals : List ConstText) : Type 0 where
  pub first : List CheckParts
  pub last : List CheckParts
  pub parts : checks ≡ first ++ m.check ∷ last
  pub checkpoints : checkpoints_in first ≡ map (λ k. k.check) before
  pub read : literals_in first ≡ filter (λ c. stands_before c m.statement m.place) literals

-- a script in written order is checked in that order
abbrev pub LooksInOrder : Type 0
LooksInOrder = (out : ScriptOut) → IsWritten out → (before after : List Checkpoint) (m : Checkpoint) → checkpoints_from 1 out.statements ≡ before ++ m ∷ after → IsCutAt (checks_of out) before m out.consts
