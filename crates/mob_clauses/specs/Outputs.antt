-- The columns of the answer: the select list of a SELECT, which may be grouped.
use Rattle.std.specs.Prelude.{◌==◌, ◌&&◌, ◌||◌, not, ◌+◌, ℕ, List, [], ◌∷◌, ◌++◌, Bool, true, false, Option, Some, None, Result, Ok, Err, codes, length, map, decimal, if◌then◌else◌}
use Rattle.std.specs.List.{list_any, flat_map}
use Rattle.mob_ast.{specs.declared.types.Word.{Word}, specs.declared.expression.Node.{Node}, specs.Trees.{Tree, tree, Trees, ItemParts, every, one, count_all, SelectParts}}
use Rattle.mob_operators.{specs.declared.aggregate.AggKind.TheVariants.{CountAll}, specs.Aggregates.{is_aggregate, aggregate_row}}
use Rattle.mob_typed.{specs.declared.typed.Agg.{Agg}, specs.declared.typed.TExpr.{TExpr}, specs.Trees.{TypedTree, typed, none, typed_of, type_of}, specs.Selects.{Output, output_of}}
use Rattle.mob_typed.specs.Statements.{ColumnList}
use Rattle.mob_scope.{specs.declared.scope.Found.{Found}, specs.Answers.{◌>>=◌, unless, found}, specs.declared.fault.Mistake.{Mistake}, specs.Scopes.{ScopeTableParts, ScopeParts}}
use Rattle.mob_scope.specs.Columns.{column_named}
use Rattle.mob_expression.{specs.Steps.{TypingTurn}, specs.Expressions.{typed_expression, typed_operands}}
use Rattle.mob_clauses.{specs.Conditions.{tree_place}, specs.declared.outputs.Outputs.{Outputs}}
use Rattle.mob_ast.specs.declared.types.SqlType.TheVariants as sql
use Rattle.mob_ast.specs.declared.refusal.Kind.TheVariants as kind
use Rattle.mob_ast.specs.declared.expression.Node.TheVariants as node
use Rattle.mob_operators.specs.declared.operator.Op.TheVariants as op

-- whether an expression is a call of an aggregate
abbrev pub is_aggregate_call : Tree → Bool
is_aggregate_call (tree (node.Call f) p args) = is_aggregate f
is_aggregate_call (tree _ p args) = false

-- whether an item is an aggregate
abbrev pub is_aggregate_item : ItemParts → Bool
is_aggregate_item (every p) = false
is_aggregate_item (one t a) = is_aggregate_call t
is_aggregate_item (count_all p a) = true

-- a SELECT is grouped if it has GROUP BY or an item that is an aggregate
abbrev pub is_grouped : SelectParts → Bool
is_grouped s = not (length s.groups == 0) || list_any is_aggregate_item s.items

-- a column by its table of FROM and its number there
abbrev pub ColumnNumbers : Type 0
ColumnNumbers = ℕ × ℕ

abbrev pub column_numbers : Result Found Mistake → List ColumnNumbers
column_numbers (Ok f) = (f.from, f.column) ∷ []
column_numbers (Err w) = []

-- the column that GROUP BY names, if its name is found; otherwise typing GROUP BY refuses it
abbrev pub group_column : ScopeParts → Tree → List ColumnNumbers
group_column s (tree (node.Column t c) p args) = column_numbers (column_named s t c)
group_column s (tree _ p args) = []

-- the columns of GROUP BY if a SELECT is grouped; else None
abbrev pub grouping : Bool → ScopeParts → List Tree → Option (List ColumnNumbers)
grouping grouped scope groups = if grouped then Some (flat_map (group_column scope) groups) else None

abbrev pub is_same_column : ColumnNumbers → ColumnNumbers → Bool
is_same_column a b = (a.0 == b.0) && (a.1 == b.1)

-- whether an expression is one of these columns
abbrev pub is_column : List ColumnNumbers → TypedTree → Bool
is_column columns (typed (op.Column f k) ty p args) = list_any (is_same_column (f, k)) columns
is_column columns (typed _ ty p args) = false

-- whether a SELECT is grouped, but not by this expression
abbrev pub is_ungrouped : Option (List ColumnNumbers) → TypedTree → Bool
is_ungrouped None t = false
is_ungrouped (Some columns) t = not (is_column columns t)

abbrev pub any_ungrouped : Option (List ColumnNumbers) → List Output → Bool
any_ungrouped g columns = list_any (λ c. is_ungrouped g c.0) columns

-- the columns of a table of FROM as columns of the answer, numbered from k
abbrev pub columns_of_table : ℕ → ℕ → ColumnList → ℕ → List Output
columns_of_table from k [] p = []
columns_of_table from k (c ∷ cs) p = (typed (op.Column from k) c.1 p none, c.0) ∷ columns_of_table from (k + 1) cs p

-- all columns of all tables of FROM, numbered from n
abbrev pub all_outputs : ℕ → List (List ℕ × ScopeTableParts) → ℕ → List Output
all_outputs n [] p = []
all_outputs n (s ∷ ss) p = columns_of_table n 0 s.1.columns p ++ all_outputs (n + 1) ss p

-- The name of a column of the answer: the one after AS, that of the column, or `c` and its position
-- from 1.
abbrev pub numbered_name : ℕ → List ℕ
numbered_name n = codes "c" ++ decimal (n + 1)

abbrev pub own_name : Node → ℕ → List ℕ
own_name (node.Column t c) n = c.text
own_name _ n = numbered_name n

abbrev pub tree_name : Tree → ℕ → List ℕ
tree_name (tree n p args) k = own_name n k

abbrev pub output_name : Option Word → Tree → ℕ → List ℕ
output_name None t k = tree_name t k
output_name (Some a) t k = a.text

abbrev pub count_name : Option Word → ℕ → List ℕ
count_name None k = numbered_name k
count_name (Some a) k = a.text

-- the names after AS so far, each with the number of its column
abbrev pub with_alias : List (List ℕ × ℕ) → Option Word → ℕ → List (List ℕ × ℕ)
with_alias aliases None k = aliases
with_alias aliases (Some a) k = aliases ++ (a.text, k) ∷ []

-- the columns of the answer so far, the aggregate of each, and the names after AS
pub record OutputLists : Type 0 where
  pub columns : List Output
  pub aggs : List (Option Agg)
  pub aliases : List (List ℕ × ℕ)

-- an expression, and the aggregate over it
abbrev pub Value : Type 0
Value = TypedTree × Option Agg

-- the program's value of an item as a plain value
abbrev pub value_seen : TExpr × Option Agg → Value
value_seen v = (typed_of v.0, v.1)

-- `count(*)` counts rows: its expression is NULL
abbrev pub counting : ℕ → Value
counting p = (typed op.Null sql.Text p none, Some (record { kind = CountAll; ty = sql.Int; place = p }))

-- the only one of these; None if there is not exactly one
abbrev pub lone_operand : List TypedTree → Option TypedTree
lone_operand (t ∷ []) = Some t
lone_operand _ = None

-- an aggregate over its one operand, whose type it must take
abbrev pub aggregated : List ℕ → ℕ → List TypedTree → Result Value Mistake
aggregated f p ts = found kind.NoSuchOperator p (lone_operand ts) >>= λ t. found kind.NoSuchOperator p (aggregate_row f (type_of t)) >>= λ a. Ok (t, Some (record { kind = a.0; ty = a.1; place = p }))

abbrev pub aggregate_value : ScopeParts → List ℕ → ℕ → Trees → TypingTurn Value
aggregate_value s f p args cs = typed_operands s args cs >>= λ r. aggregated f p r.0 >>= λ v. Ok (v, r.1)

-- in a grouped SELECT an expression without an aggregate is a column of GROUP BY
abbrev pub plain_value : ScopeParts → Option (List ColumnNumbers) → Tree → TypingTurn Value
plain_value s g t cs = typed_expression s t cs >>= λ r. unless (is_ungrouped g r.0) kind.NoSuchOperator (tree_place t) >>= λ _. Ok ((r.0, None), r.1)

abbrev pub item_value : ScopeParts → Option (List ColumnNumbers) → Tree → TypingTurn Value
item_value s g (tree (node.Call f) p args) cs = if is_aggregate f then aggregate_value s f p args cs else plain_value s g (tree (node.Call f) p args) cs
item_value s g t cs = plain_value s g t cs

-- one more column
abbrev pub with_output : OutputLists → Value → List ℕ → Option Word → OutputLists
with_output o v name a = record { columns = o.columns ++ (v.0, name) ∷ []; aggs = o.aggs ++ v.1 ∷ []; aliases = with_alias o.aliases a (length o.columns) }

abbrev pub no_agg : Output → Option Agg
no_agg o = None

-- the columns that `*` gives
abbrev pub with_all : OutputLists → List Output → OutputLists
with_all o more = record { columns = o.columns ++ more; aggs = o.aggs ++ map no_agg more; aliases = o.aliases }

-- `*` needs a FROM, and gives each of its columns
abbrev pub with_every : ScopeParts → Option (List ColumnNumbers) → OutputLists → ℕ → Result OutputLists Mistake
with_every s g o p = unless (length s.from == 0) kind.UnknownName p >>= λ _. unless (any_ungrouped g (all_outputs 0 s.from p)) kind.NoSuchOperator p >>= λ _. Ok (with_all o (all_outputs 0 s.from p))

-- an entry of the select list
abbrev pub with_item : ScopeParts → Option (List ColumnNumbers) → OutputLists → ItemParts → TypingTurn OutputLists
with_item s g o (every p) cs = with_every s g o p >>= λ r. Ok (r, cs)
with_item s g o (one t a) cs = item_value s g t cs >>= λ r. Ok (with_output o r.0 (output_name a t (length o.columns)) a, r.1)
with_item s g o (count_all p a) cs = Ok (with_output o (counting p) (count_name a (length o.columns)) a, cs)

abbrev pub with_items : ScopeParts → Option (List ColumnNumbers) → OutputLists → List ItemParts → TypingTurn OutputLists
with_items s g o [] cs = Ok (o, cs)
with_items s g o (i ∷ is) cs = with_item s g o i cs >>= λ r. with_items s g r.0 is r.1

abbrev pub no_outputs : OutputLists
no_outputs = record { columns = []; aggs = []; aliases = [] }

-- the program's columns of the answer as plain values
abbrev pub outputs_seen : Outputs → OutputLists
outputs_seen o = record { columns = map output_of o.columns.items; aggs = o.aggs.items; aliases = map (λ a. (a.0.now, a.1)) o.aliases.items }
