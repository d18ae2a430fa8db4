-- The conditions of a SELECT: WHERE and ON.
use Rattle.std.specs.Prelude.{not, ◌+◌, ℕ, Bool, List, [], ◌∷◌, Option, Some, None, Ok, slice_range}
use Rattle.mob_ast.{specs.declared.types.SqlType.{SqlType}, specs.Trees.{Tree, tree, FromParts}}
use Rattle.mob_operators.specs.Lookup.{has_type}
use Rattle.mob_typed.specs.Trees.{TypedTree, type_of}
use Rattle.mob_scope.{specs.Answers.{◌>>=◌, unless}, specs.Scopes.{ScopeParts}}
use Rattle.mob_expression.{specs.Steps.{TypingTurn, one_more}, specs.Expressions.{typed_expression}}
use Rattle.mob_ast.specs.declared.types.SqlType.TheVariants as sql
use Rattle.mob_ast.specs.declared.refusal.Kind.TheVariants as kind

-- the place of the root of an expression
abbrev pub tree_place : Tree → ℕ
tree_place (tree n p args) = p

abbrev pub is_bool : SqlType → Bool
is_bool ty = has_type (sql.Bool ∷ []) ty

-- a condition is a bool
abbrev pub condition : ScopeParts → Option Tree → TypingTurn (Option TypedTree)
condition s None cs = Ok (None, cs)
condition s (Some t) cs = typed_expression s t cs >>= λ r. unless (not (is_bool (type_of r.0))) kind.NoSuchOperator (tree_place t) >>= λ _. Ok (Some r.0, r.1)

-- A source of FROM is a table with those that are left-joined to it. The source of table n begins
-- at the table itself; or, if the table is left-joined, at table k, at which the source of the
-- table before it begins.
abbrev pub source_start : ℕ → ℕ → Option Tree → ℕ
source_start k n None = n
source_start k n (Some on) = k

-- the ON of table n sees the tables of its source, which begins at table k, up to table n itself
abbrev pub seen_by_on : ScopeParts → ℕ → ℕ → ScopeParts
seen_by_on s k n = record { from = slice_range s.from k (n + 1); first = k; statement = s.statement }

-- the ON of each of these tables, numbered from n; the source of the table before them begins at
-- table k
abbrev pub joins_from : ScopeParts → ℕ → ℕ → List FromParts → TypingTurn (List (Option TypedTree))
joins_from s k n [] cs = Ok ([], cs)
joins_from s k n (f ∷ fs) cs = one_more (condition (seen_by_on s (source_start k n f.on) n) f.on) (joins_from s (source_start k n f.on) (n + 1) fs) cs

abbrev pub no_join : TypingTurn (Option TypedTree)
no_join cs = Ok (None, cs)

-- the ON of each table of FROM; the first table has none
abbrev pub typed_joins : ScopeParts → List FromParts → TypingTurn (List (Option TypedTree))
typed_joins s [] cs = Ok ([], cs)
typed_joins s (f ∷ fs) cs = one_more no_join (joins_from s 0 1 fs) cs
