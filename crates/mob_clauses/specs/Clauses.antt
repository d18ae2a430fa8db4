-- The clauses of a SELECT after its tables of FROM, in written order: the select list, ON, WHERE,
-- GROUP BY, ORDER BY and LIMIT.
use Rattle.std.specs.Prelude.{ℕ, List, [], ◌∷◌, Bool, false, Option, None, map, option_map, Ok}
use Rattle.mob_ast.{specs.declared.types.Word.{Word}, specs.Trees.{Tree, SelectParts}}
use Rattle.mob_typed.{specs.Trees.{TypedTree, typed_of}, specs.Selects.{TypedSelectParts, key_seen}}
use Rattle.mob_scope.{specs.Answers.{◌>>=◌}, specs.Scopes.{ScopeTableParts, ScopeParts}}
use Rattle.mob_expression.specs.Steps.{TypingTurn}
use Rattle.mob_clauses.{specs.Conditions.{condition, typed_joins}, specs.Outputs.{ColumnNumbers, is_grouped, grouping, OutputLists, with_items, no_outputs}}
use Rattle.mob_clauses.{specs.Keys.{with_groups, key_item, typed_keys, limit_of}, specs.declared.clauses.Tables.{Tables}, specs.declared.clauses.Conditions.{Conditions as ConditionsOf}}
use Rattle.mob_clauses.specs.declared.clauses.Arrangement.{Arrangement}

-- the tables of FROM with their names or aliases
abbrev pub named_tables : List (List ℕ × ScopeTableParts) → Tables
named_tables from = record { numbers = map (λ t. t.1.table) from; names = map (λ t. t.0) from }

abbrev pub scope_tables : ScopeParts → Tables
scope_tables scope = named_tables scope.from

-- the ON of each table, and WHERE
pub record ConditionParts : Type 0 where
  pub joins : List (Option TypedTree)
  pub cond : Option TypedTree

abbrev pub typed_conditions : ScopeParts → SelectParts → TypingTurn ConditionParts
typed_conditions scope s cs = typed_joins scope s.from cs >>= λ j. condition scope s.cond j.1 >>= λ c. Ok (record { joins = j.0; cond = c.0 }, c.1)

-- GROUP BY, ORDER BY and LIMIT
pub record ArrangementParts : Type 0 where
  pub groups : List TypedTree
  pub keys : List (TypedTree × Bool)
  pub key_items : List (Option ℕ)
  pub limit : Option ℕ

abbrev pub typed_arrangement : ScopeParts → Option (List ColumnNumbers) → OutputLists → SelectParts → TypingTurn ArrangementParts
typed_arrangement scope g o s cs = with_groups scope [] s.groups >>= λ gs. typed_keys scope g o s.keys cs >>= λ k. limit_of s.limit >>= λ l. Ok (record { groups = gs; keys = k.0; key_items = map (key_item o) s.keys; limit = l }, k.1)

-- the typed SELECT of its clauses
abbrev pub select_made : Tables → SelectParts → Bool → OutputLists → ConditionParts → ArrangementParts → TypedSelectParts
select_made t s grouped o c r = record {
  distinct = s.distinct;
  items = o.columns;
  from = t.numbers;
  names = t.names;
  joins = c.joins;
  cond = c.cond;
  grouped = grouped;
  groups = r.groups;
  aggs = o.aggs;
  keys = r.keys;
  key_items = r.key_items;
  limit = r.limit;
}

-- The typed SELECT over these tables of FROM, or the first mistake.
abbrev pub typed_clauses : ScopeParts → SelectParts → TypingTurn TypedSelectParts
typed_clauses scope s cs = do
  o ← with_items scope (grouping (is_grouped s) scope s.groups) no_outputs s.items cs
  c ← typed_conditions scope s o.1
  r ← typed_arrangement scope (grouping (is_grouped s) scope s.groups) o.0 s c.1
  Ok (select_made (scope_tables scope) s (is_grouped s) o.0 c.0 r.0, r.1)

-- A DELETE is typed as a SELECT of one table with its condition and without items.
abbrev pub rows_to_go : Word → Option Tree → SelectParts
rows_to_go table cond = record { distinct = false; items = []; from = record { table = table; alias = None; on = None } ∷ []; cond = cond; groups = []; keys = []; limit = None }

-- the program's conditions as plain values; then its arrangement
abbrev pub conditions_seen : ConditionsOf → ConditionParts
conditions_seen c = record { joins = map (option_map typed_of) c.joins; cond = option_map typed_of c.cond }

abbrev pub arrangement_seen : Arrangement → ArrangementParts
arrangement_seen r = record { groups = map typed_of r.groups; keys = map key_seen r.keys; key_items = r.key_items; limit = r.limit }
