-- The answer of a query.
use Rattle.std.specs.Prelude.{◌≡◌, ◌⊎◌, ℕ, List, Bool, true, false, Result, Ok, Err, map}
use Rattle.mob_typed.{specs.Trees.{TypedTree}, specs.Selects.{TypedSelectParts}}
use Rattle.mob_value.{specs.declared.value.Value.{Value}, specs.declared.store.Store.{Store}}
use Rattle.mob_literal.specs.Fields.{field_text}
use Rattle.mob_meaning.{specs.Scene.{Scene, scene}, specs.Evaluation.{PlacedFormula, TreeEvaluatesTo}}
use Rattle.mob_eval.specs.QueryFaults.{TupleFault}
use Rattle.mob_arrange.{specs.Keyed.{Keyed}, specs.Rows.{AreArranged}}
use Rattle.mob_tail.{specs.IsMadeOfEach.{IsMadeOfEach}, specs.GroupedAnswers.{IsGroupedAnswer}}
use Rattle.mob_meaning.specs.declared.terms.Terms.{Terms}

-- the printed field of an entry of the select list, or its fault
abbrev pub IsField : Scene → TypedTree × List ℕ → Result (List ℕ) PlacedFormula → Type 0
IsField s item (Ok field) = (v : Value) × TreeEvaluatesTo s item.0 (Ok v) × (field ≡ field_text s.terms.epoch v)
IsField s item (Err f) = TreeEvaluatesTo s item.0 (Err f)

-- the value of a key, or its fault
abbrev pub IsKey : Scene → TypedTree × Bool → Result Value PlacedFormula → Type 0
IsKey s key r = TreeEvaluatesTo s key.0 r

-- The fields of the select list on a tuple and the values of its keys, or the first fault. The
-- fields are evaluated first.
abbrev pub IsRowOf : TypedSelectParts → Scene → Result Keyed PlacedFormula → Type 0
IsRowOf select s (Ok row) = IsMadeOfEach (IsField s) select.items (Ok row.fields) × IsMadeOfEach (IsKey s) select.keys (Ok row.keys)
IsRowOf select s (Err f) = IsMadeOfEach (IsField s) select.items (Err f) ⊎ ((fields : List (List ℕ)) × IsMadeOfEach (IsField s) select.items (Ok fields) × IsMadeOfEach (IsKey s) select.keys (Err f))

-- the row of a tuple, or the tuple with its first fault
abbrev pub IsTupleRow : TypedSelectParts → Store → Terms → List ℕ → Result Keyed TupleFault → Type 0
IsTupleRow select store terms tuple (Ok row) = IsRowOf select (scene store select.from tuple terms) (Ok row)
IsTupleRow select store terms tuple (Err f) = (f.0 ≡ tuple) × IsRowOf select (scene store select.from tuple terms) (Err f.1)

-- The rows of the answer of a query that is not grouped on the kept tuples, or the first fault of
-- these tuples in order.
abbrev pub IsPlainAnswer : TypedSelectParts → Store → Terms → List (List ℕ) → Result (List (List (List ℕ))) TupleFault → Type 0
IsPlainAnswer select store terms kept (Ok answer) =
    (rows : List Keyed) × IsMadeOfEach (IsTupleRow select store terms) kept (Ok rows) × AreArranged (map (λ key. key.1) select.keys) select.distinct select.limit rows answer
IsPlainAnswer select store terms kept (Err f) = IsMadeOfEach (IsTupleRow select store terms) kept (Err f)

-- The rows of the answer on the kept tuples, or the first fault. The first argument is whether the
-- query is grouped.
abbrev pub IsAnswerBy : Bool → TypedSelectParts → Store → Terms → List (List ℕ) → Result (List (List (List ℕ))) TupleFault → Type 0
IsAnswerBy false select store terms kept r = IsPlainAnswer select store terms kept r
IsAnswerBy true select store terms kept r = IsGroupedAnswer select store terms kept r

abbrev pub IsAnswerOnKept : TypedSelectParts → Store → Terms → List (List ℕ) → Result (List (List (List ℕ))) TupleFault → Type 0
IsAnswerOnKept select store terms kept r = IsAnswerBy select.grouped select store terms kept r
