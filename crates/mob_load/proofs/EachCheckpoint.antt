-- What holds of each checkpoint of a statement.
use Rattle.std.{specs.List.{AllByRecursion}, proofs.Common.{◌≡◌, refl, ℕ, List, [], ◌∷◌, map}}
use Rattle.mob_typed.specs.Statements.{ColumnList, StatementOut, nothing, new_table, new_index, new_rows, rows_from, deletion, query, plan_of}
use Rattle.mob_load.specs.Checks.{Checkpoint, bracket, file, checkpoint, checkpoints_of, table}

-- the checkpoints of a statement are brackets, a file or a new table
module _ (P : Checkpoint → Type 0) (n : ℕ) (row : (t p : ℕ) → P (bracket t n p)) (copied : (t : ℕ) (name : List ℕ) → P (checkpoint n 0 (file t name))) where
  each_bracket : (t : ℕ) (places : List ℕ) → AllByRecursion P (map (bracket t n) places)
  each_bracket t [] = tt
  each_bracket t (p ∷ ps) = (row t p, each_bracket t ps)

  pub each_checkpoint : (s : StatementOut) → ((t : ℕ) (name : List ℕ) (columns : ColumnList) → s ≡ new_table t name columns → P (checkpoint n 0 (table columns))) → AllByRecursion P (checkpoints_of n s)
  each_checkpoint nothing made = tt
  each_checkpoint (new_table t name columns) made = (made t name columns refl, tt)
  each_checkpoint (new_index t c name) made = tt
  each_checkpoint (new_rows t rows places) made = each_bracket t places
  each_checkpoint (rows_from t name) made = (copied t name, tt)
  each_checkpoint (deletion s) made = tt
  each_checkpoint (query s) made = tt
  each_checkpoint (plan_of s) made = tt
