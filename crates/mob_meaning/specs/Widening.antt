-- The wide mode changes no value: where an expression has a value in the narrow mode it has the
-- same in the wide one, and a fault in the wide mode is one in the narrow mode too.
use Rattle.std.specs.Prelude.{◌≡◌, ℤ, ℕ, List, Ok, Err}
use Rattle.mob_slice.specs.declared.mode.Mode.TheVariants.{Narrow, Wide}
use Rattle.mob_typed.specs.Trees.{TypedTree}
use Rattle.mob_value.{specs.declared.store.Store.{Store}, specs.declared.value.Value.{Value}}
use Rattle.mob_meaning.{specs.Scene.{Scene, scene}, specs.Evaluation.{PlacedFormula, TreeEvaluatesTo}, specs.Values.{TreeHasValue}}
use Rattle.mob_meaning.specs.declared.terms.Terms.{Terms}

-- the scenes of one tuple in the two modes
abbrev pub narrow_scene : Store → List ℕ → List ℕ → ℤ → Scene
narrow_scene store from tuple epoch = scene store from tuple (record { epoch = epoch; mode = Narrow })

abbrev pub wide_scene : Store → List ℕ → List ℕ → ℤ → Scene
wide_scene store from tuple epoch = scene store from tuple (record { epoch = epoch; mode = Wide })

abbrev pub WideKeepsValues : Type 0
WideKeepsValues = (store : Store) (from tuple : List ℕ) (epoch : ℤ) (e : TypedTree) (v : Value) → TreeEvaluatesTo (narrow_scene store from tuple epoch) e (Ok v) → TreeEvaluatesTo (wide_scene store from tuple epoch) e (Ok v)

abbrev pub WideFaultsAreNarrow : Type 0
WideFaultsAreNarrow = (store : Store) (from tuple : List ℕ) (epoch : ℤ) (e : TypedTree) (f : PlacedFormula) → TreeEvaluatesTo (wide_scene store from tuple epoch) e (Err f)
    → (g : PlacedFormula) × TreeEvaluatesTo (narrow_scene store from tuple epoch) e (Err g)

-- a value, on numbers of any size, is the same in each mode
abbrev pub ValuesKnowNoMode : Type 0
ValuesKnowNoMode = (store : Store) (from tuple : List ℕ) (one other : Terms) (e : TypedTree) (v : Value) → one.epoch ≡ other.epoch → TreeHasValue (scene store from tuple one) e v → TreeHasValue (scene store from tuple other) e v
