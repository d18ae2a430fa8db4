-- What holds of every typed script: each number names something that exists and has the type it
-- needs, each operator has a row of the table for the types of its arguments, and names are
-- distinct.
use Rattle.std.specs.Prelude.{◌≡◌, ◌⊎◌, ◌≤◌, ◌<◌, ◌+◌, ◌^◌, ◌++◌, ℕ, List, [], ◌∷◌, Bool, true, false, Option, Some, None, Ok, IfSome, length, map, slice_get, option_map, option_and_then}
use Rattle.std.{specs.List.{AllByRecursion, AllZip, IsDistinct, flat_map}, specs.Str.{bytes_eq}}
use Rattle.mob_ast.{specs.declared.types.SqlType.{SqlType}, specs.Trees.{StatementParts}}
use Rattle.mob_operators.{specs.declared.operator.Op.{Op}, specs.declared.operator.Spelling.{Spelling}, specs.Lookup.{found_in}, specs.Table.{table}}
use Rattle.mob_operators.{specs.declared.aggregate.AggKind.TheVariants.{CountAll}, specs.Aggregates.{aggregate_row}}
use Rattle.mob_typed.{specs.declared.typed.ConstText.{ConstText}, specs.Trees.{TypedTree, typed, TypedTrees, none, more, type_of, arg_types}, specs.declared.typed.Agg.{Agg}}
use Rattle.mob_typed.{specs.Named.{names_before, names_from}, specs.Selects.{Output, TypedSelectParts, on_of}}
use Rattle.mob_typed.specs.Statements.{ColumnList, StatementOut, nothing, new_table, new_index, new_rows, rows_from, deletion, query, plan_of, ScriptOut}
use Rattle.mob_expression.{specs.Words.{number_type, is_zero}, specs.Expressions.{can_cast_all}}
use Rattle.mob_clauses.{specs.Conditions.{is_bool}, specs.Outputs.{ColumnNumbers, is_column}, specs.Keys.{is_key, value_type}}
use Rattle.mob_typing.specs.Statements.{typed_script}
use Rattle.mob_ast.specs.declared.types.SqlType.TheVariants as sql
use Rattle.mob_operators.specs.declared.operator.Op.TheVariants as op

-- the type of the constant with this number
abbrev pub constant_type : List ConstText → ℕ → Option SqlType
constant_type consts k = option_map (λ c. c.ty) (slice_get consts k)

-- the type of a column of a table, and of a column of a table of FROM
abbrev pub column_type : List ColumnList → ℕ → ℕ → Option SqlType
column_type tables t k = option_and_then (λ columns. option_map (λ c. c.1) (slice_get columns k)) (slice_get tables t)

abbrev pub from_type : List ColumnList → List ℕ → ℕ → ℕ → Option SqlType
from_type tables from f k = option_and_then (λ t. column_type tables t k) (slice_get from f)

-- a leaf has the type of the constant or column that it names
abbrev pub HasNamedType : List ColumnList → List ℕ → List ConstText → Op → SqlType → Type 0
HasNamedType tables from consts (op.Const k) ty = constant_type consts k ≡ Some ty
HasNamedType tables from consts (op.Column f k) ty = from_type tables from f k ≡ Some ty
HasNamedType tables from consts _ ty = Unit {0}

-- each leaf of an expression has the type of what it names
abbrev mutual
  pub HasNamedTypes : List ColumnList → List ℕ → List ConstText → TypedTree → Type 0
  HasNamedTypes tables from consts (typed o ty p args) = HasNamedType tables from consts o ty × AllHaveNamedTypes tables from consts args

  pub AllHaveNamedTypes : List ColumnList → List ℕ → List ConstText → TypedTrees → Type 0
  AllHaveNamedTypes tables from consts none = Unit {0}
  AllHaveNamedTypes tables from consts (more t ts) = HasNamedTypes tables from consts t × AllHaveNamedTypes tables from consts ts

-- the constant with this number has this text, and the type of a number literal with this text
abbrev pub IsNumber : List ConstText → List ℕ → ℕ → Type 0
IsNumber consts text k = (option_map (λ c. c.text) (slice_get consts k) ≡ Some text) × (constant_type consts k ≡ Some (number_type text))

-- `IsBehindSigns is t`: the expression t is a constant whose number satisfies `is`, with any number
-- of signs before it
pub data IsBehindSigns (is : ℕ → Type 0) : TypedTree → Type 0 where
  the_number : {k p : ℕ} {ty : SqlType} → is k → IsBehindSigns is (typed (op.Const k) ty p none)
  behind_minus : {t : TypedTree} {ty : SqlType} {p : ℕ} → IsBehindSigns is t → IsBehindSigns is (typed op.Negate ty p (more t none))
  behind_plus : {t : TypedTree} {ty : SqlType} {p : ℕ} → IsBehindSigns is t → IsBehindSigns is (typed op.Same ty p (more t none))

-- the expression is a number literal with this text, with any number of signs before it
abbrev pub IsNumberLiteral : List ConstText → List ℕ → TypedTree → Type 0
IsNumberLiteral consts text = IsBehindSigns (IsNumber consts text)

-- The second of two arguments is a number literal whose text has a digit other than 0 before any e
-- and any slash. So its number is not 0.
abbrev pub HasDivisor : List ConstText → TypedTrees → Type 0
HasDivisor consts (more a (more b none)) = (text : List ℕ) × IsNumberLiteral consts text b × (is_zero text ≡ false)
HasDivisor consts _ = ⊥

abbrev pub is_division : Op → Bool
is_division op.Divide = true
is_division _ = false

-- The operator has a row of the table: for arguments of these types that row gives this operator
-- and its type. A division also needs a divisor.
pub record HasOperatorRow (consts : List ConstText) (o : Op) (ty : SqlType) (args : TypedTrees) : Type 0 where
  pub form : Spelling
  pub name : List ℕ
  pub row : found_in table form name (arg_types args) (is_division o) ≡ Some (o, ty)
  pub divisor : is_division o ≡ true → HasDivisor consts args

-- A node fits its arguments: a leaf has none, NULL is a text, a cast takes the type of its argument
-- to its own, and every other operator has its row.
abbrev pub FitsArguments : List ConstText → Op → SqlType → TypedTrees → Type 0
FitsArguments consts (op.Const k) ty args = args ≡ none
FitsArguments consts (op.Column f k) ty args = args ≡ none
FitsArguments consts op.Null ty args = (ty ≡ sql.Text) × (args ≡ none)
FitsArguments consts op.Cast ty args = can_cast_all (arg_types args) ty ≡ true
FitsArguments consts o ty args = HasOperatorRow consts o ty args

-- each node of an expression fits its arguments
abbrev mutual
  pub IsOperated : List ConstText → TypedTree → Type 0
  IsOperated consts (typed o ty p args) = FitsArguments consts o ty args × AreOperated consts args

  pub AreOperated : List ConstText → TypedTrees → Type 0
  AreOperated consts none = Unit {0}
  AreOperated consts (more t ts) = IsOperated consts t × AreOperated consts ts

-- the condition of a query, if it has one
abbrev pub condition_alone : Option TypedTree → List TypedTree
condition_alone None = []
condition_alone (Some t) = t ∷ []

-- the expressions of a query in written order: its columns, its conditions, its groups and its keys
abbrev pub expressions_of : TypedSelectParts → List TypedTree
expressions_of s = map (λ o. o.0) s.items ++ (flat_map condition_alone s.joins ++ (condition_alone s.cond ++ (s.groups ++ map (λ k. k.0) s.keys)))

-- Each ON names only tables of its own source, from the first one of the source on. The first ON of
-- the list is that of table n, and the source of the table before it begins at table k.
abbrev pub AreOfSources : ℕ → ℕ → List (Option TypedTree) → Type 0
AreOfSources k n [] = Unit {0}
AreOfSources k n (None ∷ joins) = AreOfSources n (n + 1) joins
AreOfSources k n (Some t ∷ joins) = (names_from k t ≡ true) × AreOfSources k (n + 1) joins

-- FROM and its ONs have the same length, and the first table has no ON. Each ON is a bool, and
-- names only tables of its own source, up to its own table.
pub record AreOns (tables : List ColumnList) (consts : List ConstText) (from : List ℕ) (joins : List (Option TypedTree)) : Type 0 where
  pub each : length joins ≡ length from
  pub first : on_of joins 0 ≡ None
  pub typed : AllByRecursion (λ on. IfSome on (λ t. HasNamedTypes tables from consts t × (is_bool (type_of t) ≡ true))) joins
  pub named : (place : ℕ) → IfSome (on_of joins place) (λ t. names_before (place + 1) t ≡ true)
  pub sourced : AreOfSources 0 0 joins

-- the column of FROM that an expression is, if it is one
abbrev pub column_in : TypedTree → List ColumnNumbers
column_in (typed (op.Column f k) ty p args) = (f, k) ∷ []
column_in _ = []

abbrev pub columns_in : List TypedTree → List ColumnNumbers
columns_in groups = flat_map column_in groups

-- a group is a column of FROM, of a type with an order
abbrev pub IsGroup : TypedTree → Type 0
IsGroup t = (length (column_in t) ≡ 1) × (is_key (type_of t) ≡ true)

-- an aggregate is count(*), or has a row for its argument
abbrev pub IsAggregateOf : TypedTree → Agg → Type 0
IsAggregateOf t a = ((a.kind ≡ CountAll) × (a.ty ≡ sql.Int)) ⊎ ((name : List ℕ) × (aggregate_row name (type_of t) ≡ Some (a.kind, a.ty)))

-- in a grouped query a column of the answer without an aggregate is a group; a query that is not
-- grouped has no aggregate
abbrev pub IsTypedItem : Bool → List TypedTree → Output → Option Agg → Type 0
IsTypedItem grouped groups o None = grouped ≡ true → is_column (columns_in groups) o.0 ≡ true
IsTypedItem grouped groups o (Some a) = (grouped ≡ true) × IsAggregateOf o.0 a

-- A key that means a column of the answer has the expression of that column, and the type of the
-- column's value has an order. The type of any other key has an order, and in a grouped query the
-- key is a group.
abbrev pub IsTypedKey : TypedSelectParts → TypedTree × Bool → Option ℕ → Type 0
IsTypedKey s k None = (is_key (type_of k.0) ≡ true) × (s.grouped ≡ true → is_column (columns_in s.groups) k.0 ≡ true)
IsTypedKey s k (Some i) = (x : Output) × (a : Option Agg) × (slice_get s.items i ≡ Some x) × (slice_get s.aggs i ≡ Some a) × (k.0 ≡ x.0) × (is_key (value_type x.0 a) ≡ true)

-- FROM has at most four tables, which exist and have distinct names. Each condition is a bool. Each
-- group and the value of each key is of a type with an order. A limit has at most 18 digits.
pub record IsTypedQuery (tables : List ColumnList) (consts : List ConstText) (s : TypedSelectParts) : Type 0 where
  pub there : AllByRecursion (λ t. t < length tables) s.from
  pub few : length s.from ≤ 4
  pub called : length s.names ≡ length s.from
  pub apart : IsDistinct bytes_eq s.names
  pub operated : AllByRecursion (IsOperated consts) (expressions_of s)
  pub limited : IfSome s.limit (λ n. n < 10 ^ 18)
  pub items : AllByRecursion (λ o. HasNamedTypes tables s.from consts o.0) s.items
  pub condition : IfSome s.cond (λ t. HasNamedTypes tables s.from consts t × (is_bool (type_of t) ≡ true))
  pub joins : AreOns tables consts s.from s.joins
  pub groups : AllByRecursion (λ t. HasNamedTypes tables s.from consts t × IsGroup t) s.groups
  pub ungrouped : s.grouped ≡ false → s.groups ≡ []
  pub aggs : AllZip (IsTypedItem s.grouped s.groups) s.items s.aggs
  pub keys : AllByRecursion (λ k. HasNamedTypes tables s.from consts k.0 × (s.grouped ≡ false → is_key (type_of k.0) ≡ true)) s.keys
  pub judged : AllZip (IsTypedKey s) s.keys s.key_items

-- a DELETE is such a query of one table, without columns of an answer
pub record IsTypedDeletion (tables : List ColumnList) (consts : List ConstText) (s : TypedSelectParts) : Type 0 where
  pub query : IsTypedQuery tables consts s
  pub one : length s.from ≡ 1
  pub bare : s.items ≡ []

-- a value of a row is NULL, or a constant of the column's type
abbrev pub IsOfColumn : List ConstText → List ℕ × SqlType → Option ℕ → Type 0
IsOfColumn consts column None = Unit {0}
IsOfColumn consts column (Some k) = constant_type consts k ≡ Some column.1

-- the table exists, and each row has a value for each column, and a place
pub record AreTypedRows (tables : List ColumnList) (consts : List ConstText) (t : ℕ) (rows : List (List (Option ℕ))) (places : List ℕ) : Type 0 where
  pub columns : ColumnList
  pub there : slice_get tables t ≡ Some columns
  pub values : AllByRecursion (AllZip (IsOfColumn consts) columns) rows
  pub placed : length places ≡ length rows

-- a new table has the next number, below 64, and at most 64 columns with distinct names
pub record IsNextTable (tables : List ColumnList) (t : ℕ) (columns : ColumnList) : Type 0 where
  pub next : t ≡ length tables
  pub few : t < 64
  pub narrow : length columns ≤ 64
  pub apart : IsDistinct bytes_eq (map (λ c. c.0) columns)

-- what holds of a statement after these tables were made; an index is on a tgeompoint
abbrev pub IsTypedStatement : List ColumnList → List ConstText → StatementOut → Type 0
IsTypedStatement tables consts nothing = Unit {0}
IsTypedStatement tables consts (new_table t name columns) = IsNextTable tables t columns
IsTypedStatement tables consts (new_index t k name) = column_type tables t k ≡ Some sql.TPoint
IsTypedStatement tables consts (new_rows t rows places) = AreTypedRows tables consts t rows places
IsTypedStatement tables consts (rows_from t name) = t < length tables
IsTypedStatement tables consts (deletion s) = IsTypedDeletion tables consts s
IsTypedStatement tables consts (query s) = IsTypedQuery tables consts s
IsTypedStatement tables consts (plan_of s) = IsTypedQuery tables consts s

-- the tables after a statement
abbrev pub tables_behind : List ColumnList → StatementOut → List ColumnList
tables_behind tables nothing = tables
tables_behind tables (new_table t name columns) = tables ++ columns ∷ []
tables_behind tables (new_index t k name) = tables
tables_behind tables (new_rows t rows places) = tables
tables_behind tables (rows_from t name) = tables
tables_behind tables (deletion s) = tables
tables_behind tables (query s) = tables
tables_behind tables (plan_of s) = tables

-- each statement is typed over the tables that those before it have made
abbrev pub AreTypedStatements : List ColumnList → List ConstText → List StatementOut → Type 0
AreTypedStatements tables consts [] = Unit {0}
AreTypedStatements tables consts (s ∷ ss) = IsTypedStatement tables consts s × AreTypedStatements (tables_behind tables s) consts ss

abbrev pub IsWellTyped : ScriptOut → Type 0
IsWellTyped out = AreTypedStatements [] out.consts out.statements

-- a typed script is well typed
abbrev pub TypingGivesWellTyped : Type 0
TypingGivesWellTyped = (ss : List StatementParts) (out : ScriptOut) → typed_script ss ≡ Ok out → IsWellTyped out

-- the name of the table that a statement makes; then that of the index
abbrev pub table_made : StatementOut → List (List ℕ)
table_made (new_table t name columns) = name ∷ []
table_made nothing = []
table_made (new_index t k name) = []
table_made (new_rows t rows places) = []
table_made (rows_from t name) = []
table_made (deletion s) = []
table_made (query s) = []
table_made (plan_of s) = []

abbrev pub index_made : StatementOut → List (List ℕ)
index_made (new_index t k name) = name ∷ []
index_made nothing = []
index_made (new_table t name columns) = []
index_made (new_rows t rows places) = []
index_made (rows_from t name) = []
index_made (deletion s) = []
index_made (query s) = []
index_made (plan_of s) = []

-- the tables of a script have distinct names, and so have the indexes
pub record HasDistinctNames (out : ScriptOut) : Type 0 where
  pub tables : IsDistinct bytes_eq (flat_map table_made out.statements)
  pub indexes : IsDistinct bytes_eq (flat_map index_made out.statements)

-- typing keeps the names of tables distinct, and those of indexes
abbrev pub TypingKeepsNamesApart : Type 0
TypingKeepsNamesApart = (ss : List StatementParts) (out : ScriptOut) → typed_script ss ≡ Ok out → HasDistinctNames out
