-- An expression has the same outcome on tuples that agree at the places that it names.
use Rattle.std.{specs.Prelude.{Result, Ok, Err, slice_get, option_and_then}, proofs.lemmas.Bool.{or_left, or_right, eq-eqb, both_ways}}
use Rattle.std.proofs.Common.{◌≡◌, inl, inr, ℕ, Bool, true, List, [], ◌∷◌, Option, Some, None, sym, ap, ◌∙◌, refl, subst}
use Rattle.mob_ast.specs.declared.types.SqlType.{SqlType}
use Rattle.mob_operators.specs.declared.operator.Op.{Op}
use Rattle.mob_typed.specs.Trees.{TypedTree, typed, TypedTrees, none, more, arg_types}
use Rattle.mob_value.{specs.declared.store.Store.{Store}, specs.declared.value.Value.{Value}, specs.Null.{value_or_null}, specs.Types.{read_as}}
use Rattle.mob_meaning.{specs.Scene.{scene, rows_of_place, row_of_number, leaf_value}, specs.Operators.{GivesOfOne, OperatorGives}}
use Rattle.mob_meaning.{specs.Evaluation.{PlacedFormula, stop_of, TreeEvaluatesTo, OperandsEvaluateTo}, specs.Depends.{reads, names, any_names, AgreeFor, OutcomesDepend, RowsDecide}}
use Rattle.mob_operators.specs.declared.operator.Op.TheVariants as op
use Rattle.mob_meaning.specs.declared.terms.Terms.{Terms}

module _ (store : Store) (from : List ℕ) (terms : Terms) (p q : List ℕ) where
  leaf_same : (o : Op) (ty : SqlType) → ((i : ℕ) → reads i o ≡ true → slice_get p i ≡ slice_get q i) → leaf_value (scene store from p terms) o ty ≡ leaf_value (scene store from q terms) o ty
  leaf_same (op.Column place column) ty agree =
      ap (λ row. read_as ty (value_or_null (option_and_then (λ values. slice_get values column) (option_and_then (λ rows. option_and_then (row_of_number rows) row) (rows_of_place (scene store from p terms) place))))) (agree place (eq-eqb place place refl))
  leaf_same _ ty agree = refl

  pub one_same : (o : Op) (ty : SqlType) (ts : List SqlType) (a v : Value) → GivesOfOne (scene store from p terms) o ty ts a v → GivesOfOne (scene store from q terms) o ty ts a v
  one_same op.AsText ty ts a v h = h
  one_same _ ty ts a v h = h

  gives_same : (o : Op) (ty : SqlType) (ts : List SqlType) (vs : List Value) (v : Value) → ((i : ℕ) → reads i o ≡ true → slice_get p i ≡ slice_get q i) → OperatorGives (scene store from p terms) o ty ts vs v → OperatorGives (scene store from q terms) o ty ts vs v
  gives_same o ty ts [] v b h = h ∙ leaf_same o ty b
  gives_same o ty ts (a ∷ []) v b h = one_same o ty ts a v h
  gives_same o ty ts (a ∷ c ∷ []) v b h = h
  gives_same o ty ts (a ∷ c ∷ d ∷ []) v b h = h
  gives_same o ty ts (a ∷ c ∷ d ∷ e ∷ rest) v b h = h

  mutual
    pub outcome_same : (e : TypedTree) (r : Result Value PlacedFormula) → AgreeFor e p q → TreeEvaluatesTo (scene store from p terms) e r → TreeEvaluatesTo (scene store from q terms) e r
    outcome_same (typed o ty at args) (Ok v) b h =
        (h.0, operands_same (stop_of o) args (Ok (h.0)) (λ i n. b i (or_right (reads i o) (any_names i args) n)) h.1, h.2, gives_same o ty (arg_types args) h.0 v (λ i n. b i (or_left (reads i o) (any_names i args) n)) h.3)
    outcome_same (typed o ty at args) (Err f) b (inl h) = inl (operands_same (stop_of o) args (Err f) (λ i n. b i (or_right (reads i o) (any_names i args) n)) h)
    outcome_same (typed o ty at args) (Err f) b (inr h) = inr (h.0, operands_same (stop_of o) args (Ok (h.0)) (λ i n. b i (or_right (reads i o) (any_names i args) n)) h.1, h.2, h.3)

    operands_same : (stop : Option Bool) (args : TypedTrees) (r : Result (List Value) PlacedFormula) → ((i : ℕ) → any_names i args ≡ true → slice_get p i ≡ slice_get q i) → OperandsEvaluateTo (scene store from p terms) stop args r → OperandsEvaluateTo (scene store from q terms) stop args r
    operands_same stop none (Ok vs) b h = h
    operands_same stop none (Err f) b h = h
    operands_same stop (more e rest) (Ok []) b h = h
    operands_same stop (more e rest) (Ok (v ∷ vs)) b (h, inl k) = (outcome_same e (Ok v) (λ i n. b i (or_left (names i e) (any_names i rest) n)) h, inl k)
    operands_same stop (more e rest) (Ok (v ∷ vs)) b (h, inr k) =
        (outcome_same e (Ok v) (λ i n. b i (or_left (names i e) (any_names i rest) n)) h, inr (k.0, operands_same stop rest (Ok vs) (λ i n. b i (or_right (names i e) (any_names i rest) n)) k.1))
    operands_same stop (more e rest) (Err f) b (inl h) = inl (outcome_same e (Err f) (λ i n. b i (or_left (names i e) (any_names i rest) n)) h)
    operands_same stop (more e rest) (Err f) b (inr h) =
        inr (h.0, outcome_same e (Ok (h.0)) (λ i n. b i (or_left (names i e) (any_names i rest) n)) h.1, h.2, operands_same stop rest (Err f) (λ i n. b i (or_right (names i e) (any_names i rest) n)) h.3)

pub depend : OutcomesDepend
depend store from terms p q e r b h = outcome_same store from terms p q e r b h

pub rows_decide : RowsDecide
rows_decide store from terms (Some place) row tuple e r only there h other says =
    outcome_same store from terms tuple other e r (λ i n. subst (λ j. slice_get tuple j ≡ slice_get other j) (sym (only i n)) (there ∙ sym says)) h
rows_decide store from terms None row tuple e r free there h other says = outcome_same store from terms tuple other e r (λ i n. absurd (both_ways (names i e) (free i) n)) h
