-- What an expression can name.
use Rattle.std.specs.Prelude.{ℕ, List, map}
use Rattle.mob_ast.specs.declared.types.SqlType.{SqlType}
use Rattle.mob_scope.{specs.declared.scope.ScopeTable.{ScopeTable}, specs.declared.scope.Scope.{Scope}}

-- a table of FROM: its number and its columns
pub record ScopeTableParts : Type 0 where
  pub table : ℕ
  pub columns : List (List ℕ × SqlType)

-- what an expression can name: adjacent tables of FROM under their names in this SELECT, the number
-- of the first of them in FROM, and the number of the statement
pub record ScopeParts : Type 0 where
  pub from : List (List ℕ × ScopeTableParts)
  pub first : ℕ
  pub statement : ℕ

abbrev pub source_of : ScopeTable → List ℕ × ScopeTableParts
source_of s = (s.name.now, record { table = s.table; columns = s.columns.now })

abbrev pub sources_of : List ScopeTable → List (List ℕ × ScopeTableParts)
sources_of ss = map source_of ss

abbrev pub scope_of : Scope → ScopeParts
scope_of s = record { from = sources_of s.from.now; first = s.first; statement = s.statement }
