-- The value of an expression, on numbers of any size, does not depend on the mode.
use Rattle.std.{specs.Prelude.{◌⊎◌}, proofs.Common.{◌≡◌, sym, refl, subst, Bool, true, false, ℕ, ℤ, List, [], ◌∷◌, Option}}
use mathlib.Core.Path.{transport}
use Rattle.mob_ast.specs.declared.types.SqlType.{SqlType}
use Rattle.mob_operators.specs.declared.operator.Op.{Op}
use Rattle.mob_slice.{specs.declared.mode.Mode.{Mode}, specs.declared.mode.Mode.TheVariants.{Narrow}}
use Rattle.mob_typed.specs.Trees.{TypedTree, typed, TypedTrees, none, more, arg_types}
use Rattle.mob_value.{specs.declared.store.Store.{Store}, specs.declared.value.Value.{Value}}
use Rattle.mob_meaning.{specs.Scene.{Scene, scene, leaf_value}, specs.Operators.{OperatorGives, GivesOfOne}, specs.Evaluation.{stop_of, stops}, specs.Modes.{narrowed}, specs.Values.{TreeHasValue, OperandsHaveValues}, specs.Widening.{ValuesKnowNoMode}}
use Rattle.mob_meaning.specs.declared.terms.Terms.{Terms}
use Rattle.mob_operators.specs.declared.operator.Op.TheVariants as op

-- terms in the narrow mode are left as they are
pub narrow_already : (terms : Terms) → terms.mode ≡ Narrow → narrowed terms ≡ terms
narrow_already terms e = λ i. record { epoch = terms.epoch; mode = sym e i }

module _ (store : Store) (from tuple : List ℕ) (epoch : ℤ) (m n : Mode) where
  abbrev here : Scene
  here = scene store from tuple (record { epoch = epoch; mode = m })

  abbrev there : Scene
  there = scene store from tuple (record { epoch = epoch; mode = n })

  pub leaf_same : (o : Op) (ty : SqlType) → leaf_value here o ty ≡ leaf_value there o ty
  leaf_same (op.Const c) ty = refl
  leaf_same (op.Column place column) ty = refl
  leaf_same _ ty = refl

  one_same : (o : Op) (ty : SqlType) (ts : List SqlType) (a v : Value) → GivesOfOne here o ty ts a v ≡ GivesOfOne there o ty ts a v
  one_same op.AsText ty ts a v = refl
  one_same _ ty ts a v = refl

  pub gives_same : (o : Op) (ty : SqlType) (ts : List SqlType) (vs : List Value) (v : Value) → OperatorGives here o ty ts vs v ≡ OperatorGives there o ty ts vs v
  gives_same o ty ts [] v = λ i. v ≡ leaf_same o ty i
  gives_same o ty ts (a ∷ []) v = one_same o ty ts a v
  gives_same o ty ts (a ∷ b ∷ []) v = refl
  gives_same o ty ts (a ∷ b ∷ c ∷ []) v = refl
  gives_same o ty ts (a ∷ b ∷ c ∷ d ∷ rest) v = refl

  pub gives_any : (o : Op) (ty : SqlType) (ts : List SqlType) (vs : List Value) (v : Value) → OperatorGives here o ty ts vs v → OperatorGives there o ty ts vs v
  gives_any o ty ts vs v h = transport (gives_same o ty ts vs v) h

  mutual
    pub value_same : (e : TypedTree) (v : Value) → TreeHasValue here e v ≡ TreeHasValue there e v
    value_same (typed o ty place args) v = λ i. (vs : List Value) × values_same (stop_of o) args vs i × gives_same o ty (arg_types args) vs v i

    values_same : (stop : Option Bool) (es : TypedTrees) (vs : List Value) → OperandsHaveValues here stop es vs ≡ OperandsHaveValues there stop es vs
    values_same stop none vs = refl
    values_same stop (more e rest) [] = refl
    values_same stop (more e rest) (v ∷ vs) = λ i. value_same e v i × (((stops stop v ≡ true) × (vs ≡ [])) ⊎ ((stops stop v ≡ false) × values_same stop rest vs i))

pub values_know_no_mode : ValuesKnowNoMode
values_know_no_mode store from tuple one other e v same h =
    subst (λ (day : ℤ). TreeHasValue (scene store from tuple (record { epoch = day; mode = other.mode })) e v) same (transport (value_same store from tuple one.epoch one.mode other.mode e v) h)
