-- The checks of a script before it runs, in written order.
use Rattle.std.specs.Prelude.{◌==◌, ◌&&◌, ◌||◌, ◌+◌, ℕ, List, [], ◌∷◌, ◌++◌, Bool, map, nat_lt, if◌then◌else◌}
use Rattle.mob_typed.{specs.declared.typed.ConstText.{ConstText}, specs.Statements.{ColumnList, StatementOut, nothing, new_table, new_index, new_rows, rows_from, deletion, query, plan_of, ScriptOut}}
use Rattle.mob_load.{specs.declared.check.Check.{Check}, specs.declared.check.Check.TheVariants.{Literal, Table, Room, File}}

-- A check: a literal; a new table with these columns; room for one more row of an INSERT (the
-- table, the statement, and the place of the row's bracket); a file whose rows go into a table.
pub data CheckParts : Type 0 where
  literal : ConstText → CheckParts
  table : ColumnList → CheckParts
  room : ℕ → ℕ → ℕ → CheckParts
  file : ℕ → List ℕ → CheckParts

abbrev pub check_seen : Check → CheckParts
check_seen (Literal c) = literal c.now
check_seen (Table cs) = table cs.now
check_seen (Room t n p) = room t n p
check_seen (File t name) = file t name.now

-- a check other than a literal, and its place: the number of its statement, and its place there
pub record Checkpoint : Type 0 where
  pub statement : ℕ
  pub place : ℕ
  pub check : CheckParts

abbrev pub checkpoint : ℕ → ℕ → CheckParts → Checkpoint
checkpoint n p check = record { statement = n; place = p; check = check }

-- the bracket of a row of an INSERT
abbrev pub bracket : ℕ → ℕ → ℕ → Checkpoint
bracket t n p = checkpoint n p (room t n p)

-- the checkpoints of a statement of this number: a new table, the brackets of an INSERT, the file
-- of a COPY
abbrev pub checkpoints_of : ℕ → StatementOut → List Checkpoint
checkpoints_of n nothing = []
checkpoints_of n (new_table t name columns) = checkpoint n 0 (table columns) ∷ []
checkpoints_of n (new_index t c name) = []
checkpoints_of n (new_rows t rows places) = map (bracket t n) places
checkpoints_of n (rows_from t name) = checkpoint n 0 (file t name) ∷ []
checkpoints_of n (deletion s) = []
checkpoints_of n (query s) = []
checkpoints_of n (plan_of s) = []

-- the checkpoints of the statements, from the statement of number n on
abbrev pub checkpoints_from : ℕ → List StatementOut → List Checkpoint
checkpoints_from n [] = []
checkpoints_from n (s ∷ ss) = checkpoints_of n s ++ checkpoints_from (n + 1) ss

-- whether a literal is before this place of this statement
abbrev pub stands_before : ConstText → ℕ → ℕ → Bool
stands_before c n p = nat_lt c.statement n || (c.statement == n && nat_lt c.place p)

-- the literals before a checkpoint, the checkpoint, and what comes next
abbrev pub checks_up_to : (List ConstText → List CheckParts) → Checkpoint → List ConstText → List CheckParts
checks_up_to next m [] = m.check ∷ next []
checks_up_to next m (c ∷ cs) = if stands_before c m.statement m.place then literal c ∷ checks_up_to next m cs else m.check ∷ next (c ∷ cs)

-- checkpoints and literals in written order
abbrev pub in_order : List Checkpoint → List ConstText → List CheckParts
in_order [] cs = map literal cs
in_order (m ∷ ms) cs = checks_up_to (in_order ms) m cs

-- The checks of a script before it runs, in written order: the new tables, the files, the brackets
-- of rows and the literals of each statement, each literal after the bracket before it.
abbrev pub checks_of : ScriptOut → List CheckParts
checks_of out = in_order (checkpoints_from 1 out.statements) out.consts
