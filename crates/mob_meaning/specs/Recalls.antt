-- Evaluation that recalls the outcomes of some operators: like plain evaluation, but an operator
-- with a recalled outcome is not evaluated.
use Rattle.std.specs.Prelude.{◌≡◌, ◌⊎◌, Bool, true, false, List, [], ◌∷◌, Option, Some, None, Result, Ok, Err}
use Rattle.mob_typed.specs.Trees.{TypedTree, typed, TypedTrees, none, more, arg_types}
use Rattle.mob_value.specs.declared.value.Value.{Value}
use Rattle.mob_meaning.{specs.Scene.{Scene}, specs.Operators.{OperatorGives, IsFirstFormula}, specs.Evaluation.{PlacedFormula, TreeEvaluatesTo, stops, stop_of}}

-- the recalled outcome of an expression, if there is one
abbrev pub Recall : Type 0
Recall = TypedTree → Option (Result Value PlacedFormula)

-- each recalled outcome is one of the expression's
abbrev pub IsRecall : Scene → Recall → Type 0
IsRecall s recall = (e : TypedTree) (r : Result Value PlacedFormula) → recall e ≡ Some r → TreeEvaluatesTo s e r

abbrev mutual
  -- The recalled outcome if there is one, else the evaluated one.
  pub TreeRecalls : Scene → Recall → TypedTree → Result Value PlacedFormula → Type 0
  TreeRecalls s recall (typed o ty place args) (Ok v) =
      (recall (typed o ty place args) ≡ Some (Ok v))
      ⊎ ((recall (typed o ty place args) ≡ None) × ((vs : List Value) × OperandsRecall s recall (stop_of o) args (Ok vs) × IsFirstFormula s.terms.mode o ty (arg_types args) vs None × OperatorGives s o ty (arg_types args) vs v))
  TreeRecalls s recall (typed o ty place args) (Err f) =
      (recall (typed o ty place args) ≡ Some (Err f))
      ⊎ ((recall (typed o ty place args) ≡ None) × (OperandsRecall s recall (stop_of o) args (Err f) ⊎ ((vs : List Value) × OperandsRecall s recall (stop_of o) args (Ok vs) × IsFirstFormula s.terms.mode o ty (arg_types args) vs (Some f.1) × (f.0 ≡ place))))

  pub OperandsRecall : Scene → Recall → Option Bool → TypedTrees → Result (List Value) PlacedFormula → Type 0
  OperandsRecall s recall stop none (Ok vs) = vs ≡ []
  OperandsRecall s recall stop none (Err f) = ⊥
  OperandsRecall s recall stop (more e rest) (Ok []) = ⊥
  OperandsRecall s recall stop (more e rest) (Ok (v ∷ vs)) =
      TreeRecalls s recall e (Ok v) × (((stops stop v ≡ true) × (vs ≡ [])) ⊎ ((stops stop v ≡ false) × OperandsRecall s recall stop rest (Ok vs)))
  OperandsRecall s recall stop (more e rest) (Err f) =
      TreeRecalls s recall e (Err f) ⊎ ((v : Value) × TreeRecalls s recall e (Ok v) × (stops stop v ≡ false) × OperandsRecall s recall stop rest (Err f))

-- an outcome found with recalled outcomes is one of plain evaluation
abbrev pub RecallsAgree : Type 0
RecallsAgree = (s : Scene) (recall : Recall) (e : TypedTree) (r : Result Value PlacedFormula) → IsRecall s recall → TreeRecalls s recall e r → TreeEvaluatesTo s e r

-- and an outcome of plain evaluation is found with them
abbrev pub RecallsFollow : Type 0
RecallsFollow = (s : Scene) (recall : Recall) (e : TypedTree) (r : Result Value PlacedFormula) → IsRecall s recall → TreeEvaluatesTo s e r → TreeRecalls s recall e r
