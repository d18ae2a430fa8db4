-- Names and types of a SELECT: first the tables of FROM, then the other clauses in written order.
use Rattle.std.specs.Prelude.{ℕ, List, [], ◌∷◌, ◌++◌, Option, Some, None, Result, Ok, length, nat_le}
use Rattle.mob_ast.{specs.declared.types.Word.{Word}, specs.Trees.{FromParts, SelectParts}}
use Rattle.mob_scope.{specs.Answers.{◌>>=◌, unless, found}, specs.declared.fault.Mistake.{Mistake}, specs.Names.{has_entry}, specs.Scopes.{ScopeTableParts}}
use Rattle.mob_expression.specs.Steps.{TypingTurn}
use Rattle.mob_typed.{specs.Selects.{TypedSelectParts}, specs.Statements.{ColumnList}}
use Rattle.mob_clauses.specs.Clauses.{typed_clauses}
use Rattle.mob_typing.specs.Names.{table_of}
use Rattle.mob_ast.specs.declared.refusal.Kind.TheVariants as kind

-- The name or alias of a table in FROM. There are at most four tables, and their names are
-- distinct. Mistakes are in the order of their places; at one place a taken name comes before the
-- limit.
abbrev pub from_name : List (List ℕ × ScopeTableParts) → Word → Option Word → Result (List ℕ) Mistake
from_name from table None = do
  _ ← unless (has_entry from table.text) kind.Duplicate table.place
  _ ← unless (nat_le 4 (length from)) kind.Limit table.place
  Ok table.text
from_name from table (Some a) = do
  _ ← unless (nat_le 4 (length from)) kind.Limit table.place
  _ ← unless (has_entry from a.text) kind.Duplicate a.place
  Ok a.text

-- the table that is added after these tables of FROM
abbrev pub from_table : List (List ℕ × ColumnList) → List (List ℕ × ScopeTableParts) → Word → Option Word → Result (List (List ℕ × ScopeTableParts)) Mistake
from_table tables from table alias = do
  t ← found kind.UnknownName table.place (table_of tables table.text)
  name ← from_name from table alias
  Ok (from ++ (name, record { table = t.0; columns = t.1 }) ∷ [])

-- the tables of FROM in order
abbrev pub from_tables : List (List ℕ × ColumnList) → List (List ℕ × ScopeTableParts) → List FromParts → Result (List (List ℕ × ScopeTableParts)) Mistake
from_tables tables from [] = Ok from
from_tables tables from (f ∷ fs) = from_table tables from f.table f.alias >>= λ more. from_tables tables more fs

-- The typed SELECT of the statement with this number, or the first mistake.
abbrev pub typed_select : List (List ℕ × ColumnList) → ℕ → SelectParts → TypingTurn TypedSelectParts
typed_select tables n s cs = from_tables tables [] s.from >>= λ from. typed_clauses (record { from = from; first = 0; statement = n }) s cs
