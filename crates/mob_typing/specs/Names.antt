-- The tables and indexes that a script has made, as lists.
use Rattle.std.specs.Prelude.{ℕ, List, Option}
use Rattle.mob_typed.specs.Statements.{ColumnList}
use Rattle.mob_scope.specs.Names.{entry_from}

-- the tables in the order of creation, each with its columns, and the names of the indexes
pub record NameLists : Type 0 where
  pub tables : List (List ℕ × ColumnList)
  pub indexes : List (List ℕ)

-- the number and the columns of the table with this name
abbrev pub table_of : List (List ℕ × ColumnList) → List ℕ → Option (ℕ × ColumnList)
table_of tables name = entry_from 0 tables name
