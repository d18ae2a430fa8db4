-- The values of the select list and of the keys on a tuple, before they are printed.
use Rattle.std.specs.Prelude.{◌≡◌, ◌⊎◌, ◌++◌, List, Result, Ok, Err}
use Rattle.mob_typed.specs.Trees.{TypedTree}
use Rattle.mob_value.specs.declared.value.Value.{Value}
use Rattle.mob_meaning.{specs.Scene.{Scene}, specs.Evaluation.{PlacedFormula, TreeEvaluatesTo}}
use Rattle.mob_tail.specs.IsMadeOfEach.{IsMadeOfEach}

-- The values of the keys, then those of the items; or the first fault. The items are evaluated
-- first.
abbrev pub AreEvaluated : Scene → List TypedTree → List TypedTree → Result (List Value) PlacedFormula → Type 0
AreEvaluated s items keys (Ok row) =
    (fields : List Value) × (front : List Value) × IsMadeOfEach (TreeEvaluatesTo s) items (Ok fields) × IsMadeOfEach (TreeEvaluatesTo s) keys (Ok front) × (row ≡ front ++ fields)
AreEvaluated s items keys (Err f) =
    IsMadeOfEach (TreeEvaluatesTo s) items (Err f) ⊎ ((fields : List Value) × IsMadeOfEach (TreeEvaluatesTo s) items (Ok fields) × IsMadeOfEach (TreeEvaluatesTo s) keys (Err f))
