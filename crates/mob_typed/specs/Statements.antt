-- Typed statements and whole typed scripts as plain values.
use Rattle.std.specs.Prelude.{ℕ, List, Option, map}
use Rattle.mob_ast.specs.declared.types.SqlType.{SqlType}
use Rattle.mob_typed.{specs.declared.typed.ConstText.{ConstText}, specs.declared.typed.TypedStatement.{TypedStatement}, specs.declared.typed.Typed.{Typed}}
use Rattle.mob_typed.specs.Selects.{TypedSelectParts, select_seen}
use Rattle.mob_typed.specs.declared.typed.TypedStatement.TheVariants as typed

-- the columns of a table: their names in order, each with its type
abbrev pub ColumnList : Type 0
ColumnList = List (List ℕ × SqlType)

-- a typed statement as a plain value
pub data StatementOut : Type 0 where
  nothing : StatementOut
  new_table : ℕ → List ℕ → ColumnList → StatementOut
  new_index : ℕ → ℕ → List ℕ → StatementOut
  new_rows : ℕ → List (List (Option ℕ)) → List ℕ → StatementOut
  rows_from : ℕ → List ℕ → StatementOut
  deletion : TypedSelectParts → StatementOut
  query : TypedSelectParts → StatementOut
  plan_of : TypedSelectParts → StatementOut

abbrev pub statement_seen : TypedStatement → StatementOut
statement_seen typed.Empty = nothing
statement_seen (typed.CreateTable t n cs) = new_table t n cs
statement_seen (typed.CreateIndex t c n) = new_index t c n
statement_seen (typed.Insert t rs ps) = new_rows t rs ps
statement_seen (typed.Copy t f) = rows_from t f
statement_seen (typed.Delete s) = deletion (select_seen s)
statement_seen (typed.Select s) = query (select_seen s)
statement_seen (typed.Explain s) = plan_of (select_seen s)

-- a typed script: its statements and its constants
pub record ScriptOut : Type 0 where
  pub statements : List StatementOut
  pub consts : List ConstText

abbrev pub script_seen : Typed → ScriptOut
script_seen t = record { statements = map statement_seen t.statements; consts = t.consts }
