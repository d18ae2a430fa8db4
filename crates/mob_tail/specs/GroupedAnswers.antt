-- The answer of a grouped query.
use Rattle.std.{specs.Prelude.{◌≡◌, ◌+◌, ℕ, List, [], ◌∷◌, Bool, Option, Some, None, Result, Ok, Err, map, option_map, option_and_then, slice_get}, specs.List.{AllZip}}
use Rattle.mob_operators.{specs.declared.aggregate.AggKind.{AggKind}, specs.declared.aggregate.AggKind.TheVariants.{CountAll}}
use Rattle.mob_slice.{specs.declared.formula.Formula.{Formula}, specs.declared.mode.Mode.{Mode}}
use Rattle.mob_typed.{specs.declared.typed.Agg.{Agg}, specs.Trees.{TypedTree}, specs.Selects.{Output, TypedSelectParts}}
use Rattle.mob_value.{specs.declared.value.Value.{Value}, specs.declared.value.Value.TheVariants.{Null}, specs.declared.store.Store.{Store}, specs.Null.{value_or_null}}
use Rattle.mob_literal.specs.Fields.{field_text}
use Rattle.mob_meaning.{specs.Scene.{Scene, scene}, specs.Modes.{Sums, mode_for}, specs.Evaluation.{PlacedFormula, TreeEvaluatesTo}}
use Rattle.mob_eval.specs.QueryFaults.{TupleFault}
use Rattle.mob_tagg.specs.Rows.{IsRowFault, Adds}
use Rattle.mob_arrange.{specs.Keyed.{Keyed}, specs.Rows.{AreArranged}}
use Rattle.mob_tail.{specs.Aggregated.{IsAggregated, IsAddingIn}, specs.Groups.{same_group, groups_on, first_value}}
use Rattle.mob_meaning.specs.declared.terms.Terms.{Terms}

-- a column of the answer: its expression, and the aggregate over it, if it is one
abbrev pub AnswerColumn : Type 0
AnswerColumn = TypedTree × Option Agg

-- the aggregate over the expression of this number
abbrev pub agg_at : List (Option Agg) → ℕ → Option Agg
agg_at aggs number = option_and_then (λ agg. agg) (slice_get aggs number)

-- the columns of the answer, from the one of this number on
abbrev pub columns_from : List (Option Agg) → ℕ → List Output → List AnswerColumn
columns_from aggs number [] = []
columns_from aggs number (o ∷ outputs) = (o.0, agg_at aggs number) ∷ columns_from aggs (number + 1) outputs

abbrev pub columns_of : TypedSelectParts → List AnswerColumn
columns_of select = columns_from select.aggs 0 select.items

-- the argument of an aggregate on a tuple, which count(*) does not evaluate; or its fault
abbrev pub IsArgumentOf : AggKind → Scene → TypedTree → Result Value PlacedFormula → Type 0
IsArgumentOf CountAll s e r = r ≡ Ok Null
IsArgumentOf _ s e r = TreeEvaluatesTo s e r

-- the same for a column; one that is not an aggregate has no argument
abbrev pub IsArgument : Scene → AnswerColumn → Result Value PlacedFormula → Type 0
IsArgument s (e, None) r = r ≡ Ok Null
IsArgument s (e, Some agg) r = IsArgumentOf agg.kind s e r

-- the fault of adding a value to those before it in a column, at the place of the aggregate; or
-- none
abbrev pub IsAddingTo : Mode → AnswerColumn → List Value → Value → Option PlacedFormula → Type 0
IsAddingTo mode (e, None) before v f = f ≡ None
IsAddingTo mode (e, Some agg) before v f = (g : Option Formula) × IsAddingIn (mode_for Sums mode) agg before v g × (f ≡ option_map (λ formula. (agg.place, formula)) g)

-- the argument of a column on a tuple
abbrev pub IsArgumentOn : TypedSelectParts → Store → Terms → List ℕ → AnswerColumn → Result Value PlacedFormula → Type 0
IsArgumentOn select store terms tuple column r = IsArgument (scene store select.from tuple terms) column r

-- The first fault on the kept tuples, or none. On each tuple, column by column, the argument comes
-- first, then adding its value to the aggregate over the earlier tuples of the group.
abbrev pub IsGroupedFault : TypedSelectParts → Store → Terms → List (List ℕ) → Option TupleFault → Type 0
IsGroupedFault select store terms kept f = IsRowFault (IsArgumentOn select store terms) (IsAddingTo terms.mode) (same_group select store terms) (columns_of select) [] kept f

-- Adding the value of a column on this tuple, after these, overflows, whether or not it is the
-- first fault.
abbrev pub AddingFails : TypedSelectParts → Store → Terms → List (List ℕ) → List ℕ → AnswerColumn → PlacedFormula → Type 0
AddingFails select store terms before tuple column f = Adds (IsArgumentOn select store terms) (IsAddingTo terms.mode) (same_group select store terms) before tuple column f

-- The value of a column for a group: the aggregate of its argument over the tuples of the group in
-- order, or the value of a column of GROUP BY on the first tuple.
abbrev pub IsColumnValue : TypedSelectParts → Store → Terms → List (List ℕ) → AnswerColumn → Value → Type 0
IsColumnValue select store terms group (e, None) v = v ≡ first_value select store terms group e
IsColumnValue select store terms group (e, Some agg) v = (vs : List Value) × AllZip (λ t w. IsArgumentOn select store terms t (e, Some agg) (Ok w)) group vs × IsAggregated agg.kind agg.ty vs v

-- the value of a key for a group whose columns have these values: that of the column it refers to,
-- or of a column of GROUP BY on the first tuple
abbrev pub answer_key : TypedSelectParts → Store → Terms → List (List ℕ) → List Value → TypedTree → Option ℕ → Value
answer_key select store terms group values e (Some n) = value_or_null (slice_get values n)
answer_key select store terms group values e None = first_value select store terms group e

-- the number of the column that a key refers to
abbrev pub answer_item : List (Option ℕ) → ℕ → Option ℕ
answer_item numbers key = option_and_then (λ n. n) (slice_get numbers key)

-- the values of the keys, from the one of this number on
abbrev pub keys_from : TypedSelectParts → Store → Terms → List (List ℕ) → List Value → ℕ → List (TypedTree × Bool) → List Value
keys_from select store terms group values number [] = []
keys_from select store terms group values number (k ∷ keys) = answer_key select store terms group values k.0 (answer_item select.key_items number) ∷ keys_from select store terms group values (number + 1) keys

-- the row of a group: the printed values of its columns, and the values of its keys
pub record IsGroupRow (select : TypedSelectParts) (store : Store) (terms : Terms) (group : List (List ℕ)) (row : Keyed) : Type 0 where
  pub values : List Value
  pub made : AllZip (IsColumnValue select store terms group) (columns_of select) values
  pub fields : row.fields ≡ map (field_text terms.epoch) values
  pub keys : row.keys ≡ keys_from select store terms group values 0 select.keys

-- The rows of the answer on the kept tuples, one for each group in order; or the first fault.
abbrev pub IsGroupedAnswer : TypedSelectParts → Store → Terms → List (List ℕ) → Result (List (List (List ℕ))) TupleFault → Type 0
IsGroupedAnswer select store terms kept (Ok answer) =
    IsGroupedFault select store terms kept None × ((rows : List Keyed) × AllZip (IsGroupRow select store terms) (groups_on select store terms kept) rows × AreArranged (map (λ key. key.1) select.keys) select.distinct select.limit rows answer)
IsGroupedAnswer select store terms kept (Err f) = IsGroupedFault select store terms kept (Some f)
