-- The sites of typing: a refusal, and each operator and aggregate of a typed script, is at a site
-- of the tree of its statement.
use Rattle.std.{specs.Prelude.{◌≡◌, ◌+◌, ◌++◌, ℕ, List, [], ◌∷◌, length, Option, Some, None, Ok, Err}, specs.List.{AllByRecursion, Contains, flat_map}}
use Rattle.mob_ast.{specs.declared.refusal.Refusal.{Refusal}, specs.Trees.{StatementParts}}
use Rattle.mob_grammar.specs.Sites.{statement_sites}
use Rattle.mob_typed.{specs.declared.typed.Agg.{Agg}, specs.Trees.{TypedTree, typed, TypedTrees, none, more}, specs.Selects.{TypedSelectParts}}
use Rattle.mob_typed.specs.Statements.{StatementOut, nothing, new_table, new_index, new_rows, rows_from, deletion, query, plan_of, ScriptOut}
use Rattle.mob_typing.{specs.Statements.{typed_script}, specs.WellTyped.{expressions_of}}

-- this place is a site of the tree with this number, from 1
pub record IsSiteIn (trees : List StatementParts) (n place : ℕ) : Type 0 where
  pub front : List StatementParts
  pub own : StatementParts
  pub behind : List StatementParts
  pub parts : trees ≡ front ++ own ∷ behind
  pub number : length front + 1 ≡ n
  pub site : Contains (statement_sites own) place

-- a refusal is at a site of the tree of the statement that it names
abbrev pub IsPlacedRefusal : List StatementParts → Refusal → Type 0
IsPlacedRefusal trees e = IsSiteIn trees e.statement e.place

-- each refusal of typing is at a site of the tree of its statement
abbrev pub TypingRefusesAtSites : Type 0
TypingRefusesAtSites = (trees : List StatementParts) (e : Refusal) → typed_script trees ≡ Err e → IsPlacedRefusal trees e

-- the places of the operators of a typed expression, constants and columns included
abbrev mutual
  pub operators_in : TypedTree → List ℕ
  operators_in (typed o ty p args) = p ∷ operators_among args

  pub operators_among : TypedTrees → List ℕ
  operators_among none = []
  operators_among (more t ts) = operators_in t ++ operators_among ts

-- the place of an aggregate
abbrev pub aggregate_place : Option Agg → List ℕ
aggregate_place None = []
aggregate_place (Some agg) = agg.place ∷ []

-- the places of the operators and of the aggregates of a query
abbrev pub query_operators : TypedSelectParts → List ℕ
query_operators q = flat_map operators_in (expressions_of q) ++ flat_map aggregate_place q.aggs

abbrev pub operators_of : StatementOut → List ℕ
operators_of nothing = []
operators_of (new_table t name columns) = []
operators_of (new_index t k name) = []
operators_of (new_rows t rows places) = []
operators_of (rows_from t name) = []
operators_of (deletion s) = query_operators s
operators_of (query s) = query_operators s
operators_of (plan_of s) = query_operators s

-- the operators and aggregates of the first statement are at such places of statement n, and those
-- of each further statement at such places of the next
abbrev pub OperatorsStand : (ℕ → ℕ → Type 0) → ℕ → List StatementOut → Type 0
OperatorsStand At n [] = Unit {0}
OperatorsStand At n (s ∷ ss) = AllByRecursion (At n) (operators_of s) × OperatorsStand At (n + 1) ss

-- each operator and each aggregate of a typed script is at a site of the tree of its statement
abbrev pub OperatorsAreAtSites : Type 0
OperatorsAreAtSites = (trees : List StatementParts) (out : ScriptOut) → typed_script trees ≡ Ok out → OperatorsStand (IsSiteIn trees) 1 out.statements
