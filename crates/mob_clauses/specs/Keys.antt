-- The columns of GROUP BY, the keys of ORDER BY and the number of LIMIT.
use Rattle.std.{specs.Prelude.{◌&&◌, not, ℕ, List, [], ◌∷◌, ◌++◌, Bool, Option, Some, None, Result, Ok, length, slice_get, option_map, option_and_then, nat_le, if◌then◌else◌}, specs.List.{list_all}}
use Rattle.std.{specs.Char.{is_ascii_digit}, specs.Str.Parse.{digits_value}}
use Rattle.mob_ast.{specs.declared.types.Word.{Word}, specs.declared.types.SqlType.{SqlType}, specs.declared.expression.Node.{Node}, specs.Trees.{Tree, tree, KeyParts}}
use Rattle.mob_operators.specs.Lookup.{has_type}
use Rattle.mob_typed.{specs.declared.typed.Agg.{Agg}, specs.Trees.{TypedTree, typed, none, type_of}}
use Rattle.mob_scope.{specs.declared.scope.Found.{Found}, specs.Answers.{refuse, ◌>>=◌, unless, found}, specs.declared.fault.Mistake.{Mistake}, specs.Names.{entry_from}, specs.Scopes.{ScopeParts}}
use Rattle.mob_scope.specs.Columns.{column_named}
use Rattle.mob_expression.{specs.Steps.{TypingTurn, one_more}, specs.Expressions.{typed_expression}}
use Rattle.mob_clauses.{specs.Conditions.{tree_place}, specs.Outputs.{ColumnNumbers, OutputLists, is_ungrouped}}
use Rattle.mob_ast.specs.declared.types.SqlType.TheVariants as sql
use Rattle.mob_ast.specs.declared.refusal.Kind.TheVariants as kind
use Rattle.mob_ast.specs.declared.expression.Node.TheVariants as node
use Rattle.mob_operators.specs.declared.operator.Op.TheVariants as op

-- a key, or a column of GROUP BY, has one of these types
abbrev pub is_key : SqlType → Bool
is_key ty = has_type (sql.Bool ∷ sql.Int ∷ sql.Numeric ∷ sql.Text ∷ sql.Moment ∷ []) ty

-- a column that is found can be in GROUP BY if it has such a type
abbrev pub group_of : ℕ → Found → Result TypedTree Mistake
group_of p f = unless (not (is_key f.ty)) kind.NoSuchOperator p >>= λ _. Ok (typed (op.Column f.from f.column) f.ty p none)

-- GROUP BY names only columns
abbrev pub typed_group : ScopeParts → Tree → Result TypedTree Mistake
typed_group s (tree (node.Column t c) p args) = column_named s t c >>= group_of p
typed_group s (tree _ p args) = refuse kind.NoSuchOperator p

-- the columns of GROUP BY in order, after those already typed
abbrev pub with_groups : ScopeParts → List TypedTree → List Tree → Result (List TypedTree) Mistake
with_groups s done [] = Ok done
with_groups s done (t ∷ ts) = typed_group s t >>= λ g. with_groups s (done ++ g ∷ []) ts

-- the number of the column of the answer that an expression means, if it is a bare word: the first
-- one with this name after AS
abbrev pub alias_node : OutputLists → Node → Option ℕ
alias_node o (node.Column None c) = option_map (λ a. a.1) (entry_from 0 o.aliases c.text)
alias_node o _ = None

abbrev pub alias_number : OutputLists → Tree → Option ℕ
alias_number o (tree n p args) = alias_node o n

-- the type of the value of a column of the answer
abbrev pub value_type : TypedTree → Option Agg → SqlType
value_type t None = type_of t
value_type t (Some a) = a.ty

-- the column of the answer with this number: its number, its expression and the type of its value
abbrev pub output_at : OutputLists → ℕ → Option (ℕ × (TypedTree × SqlType))
output_at o k = option_and_then (λ t. option_map (λ a. (k, (t, value_type t a))) (slice_get o.aggs k)) (option_map (λ x. x.0) (slice_get o.columns k))

-- the column of the answer that an expression means
abbrev pub aliased : OutputLists → Tree → Option (ℕ × (TypedTree × SqlType))
aliased o t = option_and_then (output_at o) (alias_number o t)

abbrev pub key_item : OutputLists → KeyParts → Option ℕ
key_item o k = option_map (λ x. x.0) (aliased o k.value)

-- A key that means a column of the answer is that column. In a grouped SELECT any other key is a
-- column of GROUP BY. A key is typed first and then checked.
abbrev pub plain_key : ScopeParts → Option (List ColumnNumbers) → Tree → TypingTurn TypedTree
plain_key s g t cs = typed_expression s t cs >>= λ r. unless (not (is_key (type_of r.0))) kind.NoSuchOperator (tree_place t) >>= λ _. unless (is_ungrouped g r.0) kind.NoSuchOperator (tree_place t) >>= λ _. Ok r

abbrev pub key_value : ScopeParts → Option (List ColumnNumbers) → Tree → Option (ℕ × (TypedTree × SqlType)) → TypingTurn TypedTree
key_value s g t None cs = plain_key s g t cs
key_value s g t (Some x) cs = unless (not (is_key x.1.1)) kind.NoSuchOperator (tree_place t) >>= λ _. Ok (x.1.0, cs)

abbrev pub typed_key : ScopeParts → Option (List ColumnNumbers) → OutputLists → KeyParts → TypingTurn (TypedTree × Bool)
typed_key s g o k cs = key_value s g k.value (aliased o k.value) cs >>= λ r. Ok ((r.0, k.descending), r.1)

-- the keys in order
abbrev pub typed_keys : ScopeParts → Option (List ColumnNumbers) → OutputLists → List KeyParts → TypingTurn (List (TypedTree × Bool))
typed_keys s g o [] cs = Ok ([], cs)
typed_keys s g o (k ∷ ks) cs = one_more (typed_key s g o k) (typed_keys s g o ks) cs

-- a LIMIT has 1 to 18 digits and nothing else
abbrev pub is_limit : List ℕ → Bool
is_limit text = list_all is_ascii_digit text && nat_le 1 (length text) && nat_le (length text) 18

abbrev pub limit_value : List ℕ → Option ℕ
limit_value text = if is_limit text then Some (digits_value 10 text) else None

abbrev pub limit_of : Option Word → Result (Option ℕ) Mistake
limit_of None = Ok None
limit_of (Some w) = found kind.BadCount w.place (limit_value w.text) >>= λ n. Ok (Some n)
