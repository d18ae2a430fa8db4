-- The outcome found with recalled outcomes is that of plain evaluation.
use Rattle.std.{specs.Prelude.{Result, Ok, Err}, proofs.Common.{◌≡◌, ◌⊎◌, inl, inr, Bool, List, [], ◌∷◌, Option, Some, None, ap, ◌∙◌, refl}}
use Rattle.mob_typed.specs.Trees.{TypedTree, typed, TypedTrees, none, more}
use Rattle.mob_value.specs.declared.value.Value.{Value}
use Rattle.mob_meaning.{specs.Scene.{Scene}, specs.Outcomes.{HasOneOutcome}, specs.Evaluation.{PlacedFormula, stop_of, TreeEvaluatesTo, OperandsEvaluateTo}}
use Rattle.mob_meaning.specs.Recalls.{Recall, IsRecall, TreeRecalls, OperandsRecall, RecallsAgree, RecallsFollow}

module _ (s : Scene) (recall : Recall) (known : IsRecall s recall) where
  mutual
    pub tree_agrees : (e : TypedTree) (r : Result Value PlacedFormula) → TreeRecalls s recall e r → TreeEvaluatesTo s e r
    tree_agrees (typed o ty at args) (Ok v) (inl h) = known (typed o ty at args) (Ok v) h
    tree_agrees (typed o ty at args) (Ok v) (inr (h, k)) = (k.0, operands_agree (stop_of o) args (Ok (k.0)) k.1, k.2, k.3)
    tree_agrees (typed o ty at args) (Err f) (inl h) = known (typed o ty at args) (Err f) h
    tree_agrees (typed o ty at args) (Err f) (inr (h, inl k)) = inl (operands_agree (stop_of o) args (Err f) k)
    tree_agrees (typed o ty at args) (Err f) (inr (h, inr k)) = inr (k.0, operands_agree (stop_of o) args (Ok (k.0)) k.1, k.2, k.3)

    operands_agree : (stop : Option Bool) (args : TypedTrees) (r : Result (List Value) PlacedFormula) → OperandsRecall s recall stop args r → OperandsEvaluateTo s stop args r
    operands_agree stop none (Ok vs) h = h
    operands_agree stop none (Err f) h = h
    operands_agree stop (more e rest) (Ok []) h = h
    operands_agree stop (more e rest) (Ok (v ∷ vs)) (h, inl k) = (tree_agrees e (Ok v) h, inl k)
    operands_agree stop (more e rest) (Ok (v ∷ vs)) (h, inr k) = (tree_agrees e (Ok v) h, inr (k.0, operands_agree stop rest (Ok vs) k.1))
    operands_agree stop (more e rest) (Err f) (inl h) = inl (tree_agrees e (Err f) h)
    operands_agree stop (more e rest) (Err f) (inr h) = inr (h.0, tree_agrees e (Ok (h.0)) h.1, h.2, operands_agree stop rest (Err f) h.3)

module _ (s : Scene) (recall : Recall) (known : IsRecall s recall) (one : HasOneOutcome) where
  -- the outcome is recalled, or is the evaluated one
  decided : (e : TypedTree) (r : Result Value PlacedFormula) (found : Option (Result Value PlacedFormula)) (X : Type 0) → recall e ≡ found → TreeEvaluatesTo s e r → X → (recall e ≡ Some r) ⊎ ((recall e ≡ None) × X)
  decided e r (Some k) X f h x = inl (f ∙ ap Some (one s e k r (known e k f) h))
  decided e r None X f h x = inr (f, x)

  mutual
    pub tree_follows : (e : TypedTree) (r : Result Value PlacedFormula) → TreeEvaluatesTo s e r → TreeRecalls s recall e r
    tree_follows (typed o ty at args) (Ok v) h =
        decided (typed o ty at args) (Ok v) (recall (typed o ty at args)) _ refl h (h.0, operands_follow (stop_of o) args (Ok (h.0)) h.1, h.2, h.3)
    tree_follows (typed o ty at args) (Err g) (inl h) =
        decided (typed o ty at args) (Err g) (recall (typed o ty at args)) _ refl (inl h) (inl (operands_follow (stop_of o) args (Err g) h))
    tree_follows (typed o ty at args) (Err g) (inr h) =
        decided (typed o ty at args) (Err g) (recall (typed o ty at args)) _ refl (inr h) (inr (h.0, operands_follow (stop_of o) args (Ok (h.0)) h.1, h.2, h.3))

    operands_follow : (stop : Option Bool) (args : TypedTrees) (r : Result (List Value) PlacedFormula) → OperandsEvaluateTo s stop args r → OperandsRecall s recall stop args r
    operands_follow stop none (Ok vs) h = h
    operands_follow stop none (Err f) h = h
    operands_follow stop (more e rest) (Ok []) h = h
    operands_follow stop (more e rest) (Ok (v ∷ vs)) (h, inl k) = (tree_follows e (Ok v) h, inl k)
    operands_follow stop (more e rest) (Ok (v ∷ vs)) (h, inr k) = (tree_follows e (Ok v) h, inr (k.0, operands_follow stop rest (Ok vs) k.1))
    operands_follow stop (more e rest) (Err f) (inl h) = inl (tree_follows e (Err f) h)
    operands_follow stop (more e rest) (Err f) (inr h) = inr (h.0, tree_follows e (Ok (h.0)) h.1, h.2, operands_follow stop rest (Err f) h.3)

pub agree : RecallsAgree
agree s recall e r known h = tree_agrees s recall known e r h

pub follow : HasOneOutcome → RecallsFollow
follow one s recall e r known h = tree_follows s recall known one e r h
