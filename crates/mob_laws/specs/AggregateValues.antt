-- The results of the aggregates of a grouped query on the values of their arguments.
--
-- `IsAggregated` of `mob_tail` ignores a value of a form that it does not name, as it ignores NULL.
-- In a typed query only NULL is such a value.
use Rattle.std.{specs.Prelude.{◌≡◌, ◌⊎◌, ◌↔◌, ℕ, Bool, false, List, Option, Some, Ok, is_some, map, slice_get}, specs.List.{AllByRecursion, AllZip}}
use Rattle.mob_ratio.specs.Ratio.{Ratio}
use Rattle.mob_slice.{specs.declared.line.Line.{Line}, specs.declared.slice.Slice.{Slice}}
use Rattle.mob_ast.specs.declared.types.SqlType.{SqlType}
use Rattle.mob_operators.{specs.declared.aggregate.AggKind.{AggKind}, specs.declared.aggregate.AggKind.TheVariants.{CountAll, Count, Sum, TCount, TSum, TAnd, TOr}}
use Rattle.mob_typed.{specs.declared.typed.Agg.{Agg}, specs.Selects.{TypedSelectParts}, specs.Statements.{query}, specs.Trees.{TypedTree, type_of}}
use Rattle.mob_clauses.specs.Keys.{value_type}
use Rattle.mob_typing.specs.WellTyped.{IsAggregateOf}
use Rattle.mob_value.{specs.declared.value.Value.{Value}, specs.declared.value.Value.TheVariants.{Null, Number}, specs.Moving.{SteadySlices}}
use Rattle.mob_catalog.{specs.Catalogue.{Catalogue}, specs.OwnTypes.{IsValueOf}}
use Rattle.mob_operands.specs.Rows.{is_there}
use Rattle.mob_join.specs.TypedFor.{IsTypedFor}
use Rattle.mob_tail.specs.Aggregated.{IsAggregated, known_of, line_there, aggregate_lines, number_of_value, numbers_of, one_there, step_there, steps_of, truth_there, truths_of}
use Rattle.mob_tail.specs.GroupedAnswers.{AnswerColumn, IsArgumentOn, IsColumnValue, columns_of}
use Rattle.mob_arguments.specs.declared.options.Settings.{Settings}
use Rattle.mob_shell.{specs.Inputs.{Input}, specs.Program.{WritesFirst}}
use Rattle.mob_ast.specs.declared.types.SqlType.TheVariants as sql
use Rattle.mob_meaning.specs.declared.terms.Terms.{Terms}
use Rattle.mob_shell.specs.Terms.{terms_of}

-- the types that an aggregate may give
abbrev pub GivesType : AggKind → SqlType → Type 0
GivesType CountAll ty = ty ≡ sql.Int
GivesType Count ty = ty ≡ sql.Int
GivesType Sum ty = (ty ≡ sql.Int) ⊎ (ty ≡ sql.Numeric)
GivesType TCount ty = ty ≡ sql.TInt
GivesType TSum ty = (ty ≡ sql.TInt) ⊎ (ty ≡ sql.TFrac)
GivesType TAnd ty = ty ≡ sql.TBool
GivesType TOr ty = ty ≡ sql.TBool

-- `there` gives something for a value at exactly the instants at which the value exists
abbrev pub IsThereBy : {B : Type 0} → (Value → Ratio → Option B) → Value → Type 0
IsThereBy there v = (t : Ratio) → is_some (there v t) ≡ is_there t v

-- An aggregate of this type takes a value that is not NULL: a sum takes its number, and an
-- aggregate over time its value at each instant at which it is defined. A count needs only the
-- value.
abbrev pub TakesValue : AggKind → SqlType → Value → Type 0
TakesValue CountAll ty v = Unit {0}
TakesValue Count ty v = Unit {0}
TakesValue Sum ty v = (n : Ratio) × (number_of_value v ≡ Some n)
TakesValue TCount ty v = IsThereBy one_there v
TakesValue TSum sql.TInt v = (m : SteadySlices Ratio) × (steps_of v ≡ Some m) × IsThereBy step_there v
TakesValue TSum sql.TFrac v = (m : List (Slice Line)) × (aggregate_lines v ≡ Some m) × IsThereBy line_there v
TakesValue TSum _ v = ⊥
TakesValue TAnd ty v = (m : SteadySlices Bool) × (truths_of v ≡ Some m) × IsThereBy truth_there v
TakesValue TOr ty v = (m : SteadySlices Bool) × (truths_of v ≡ Some m) × IsThereBy truth_there v

-- it takes each value but NULL
abbrev pub TakesEachValue : AggKind → SqlType → List Value → Type 0
TakesEachValue kind ty vs = AllByRecursion (TakesValue kind ty) (known_of vs)

-- When NULL is due: for a count never, for a sum if each value is NULL, and for an aggregate over
-- time if no value is defined at any instant.
abbrev pub IsNullDue : AggKind → List Value → Type 0
IsNullDue CountAll vs = ⊥
IsNullDue Count vs = ⊥
IsNullDue Sum vs = AllByRecursion (λ v. v ≡ Null) vs
IsNullDue _ vs = (t : Ratio) → AllByRecursion (λ v. is_there t v ≡ false) vs

-- the result of an aggregate of this type on values is of the type, and NULL exactly if that is due
pub record IsResult (kind : AggKind) (ty : SqlType) (vs : List Value) (v : Value) : Type 0 where
  pub own : IsValueOf ty v
  pub null : (v ≡ Null) ↔ IsNullDue kind vs

-- An aggregate of this type has a meaning on these values: it may give this type, it takes each
-- value but NULL, the numbers of a sum are those of these values in order, and its result on the
-- values is such a result.
pub record HasMeaningOn (kind : AggKind) (ty : SqlType) (vs : List Value) : Type 0 where
  pub gives : GivesType kind ty
  pub taken : TakesEachValue kind ty vs
  pub numbers : kind ≡ Sum → map Number (numbers_of vs) ≡ known_of vs
  pub result : (v : Value) → IsAggregated kind ty vs v → IsResult kind ty vs v

-- This holds for each row of the table of aggregates, on any values of the type that it takes.
abbrev pub AggregateRowsHaveMeanings : Type 0
AggregateRowsHaveMeanings = (e : TypedTree) (agg : Agg) (vs : List Value) → IsAggregateOf e agg → AllByRecursion (IsValueOf (type_of e)) vs → HasMeaningOn agg.kind agg.ty vs

-- The values of an aggregate's argument on a group are NULL or of the argument's type, and the
-- aggregate has a meaning on them.
pub record ArgumentsHaveMeaning (e : TypedTree) (agg : Agg) (vs : List Value) : Type 0 where
  pub own : AllByRecursion (IsValueOf (type_of e)) vs
  pub meant : HasMeaningOn agg.kind agg.ty vs

-- A column of a grouped query has a meaning on a group of tuples: each value of it is NULL or of
-- the type that typing gives it, and an aggregate has one on any values of its argument there.
pub record ColumnHasMeaning (c : Catalogue) (q : TypedSelectParts) (terms : Terms) (group : List (List ℕ)) (column : AnswerColumn) : Type 0 where
  pub own : (v : Value) → IsColumnValue q c.store terms group column v → IsValueOf (value_type column.0 column.1) v
  pub arguments : (agg : Agg) (vs : List Value) → column.1 ≡ Some agg → AllZip (λ t w. IsArgumentOn q c.store terms t column (Ok w)) group vs → ArgumentsHaveMeaning column.0 agg vs

-- So does each column of a query that is typed for a catalogue, on any tuples. A query that is not
-- grouped has no aggregate.
abbrev pub TypedColumnsHaveMeanings : Type 0
TypedColumnsHaveMeanings = (c : Catalogue) (q : TypedSelectParts) (terms : Terms) (group : List (List ℕ)) → IsTypedFor c q → AllByRecursion (ColumnHasMeaning c q terms group) (columns_of q)

-- So does each column of the next query of a run.
abbrev pub RunColumnsHaveMeanings : Type 0
RunColumnsHaveMeanings = (settings : Settings) (input : Input) (count : ℕ) (text : List ℕ) (run : WritesFirst settings input count text) (q : TypedSelectParts) (group : List (List ℕ))
    → slice_get run.out.statements count ≡ Some (query q) → AllByRecursion (ColumnHasMeaning run.stands.catalogue q (terms_of settings) group) (columns_of q)
