-- Which rows of a tuple an expression names, and that its outcome depends on no others.
use Rattle.std.specs.Prelude.{◌≡◌, ◌||◌, ◌==◌, ℕ, List, Bool, true, false, Option, Some, None, Result, slice_get}
use Rattle.mob_operators.specs.declared.operator.Op.{Op}
use Rattle.mob_typed.specs.Trees.{TypedTree, typed, TypedTrees, none, more}
use Rattle.mob_value.{specs.declared.store.Store.{Store}, specs.declared.value.Value.{Value}}
use Rattle.mob_meaning.{specs.Scene.{scene}, specs.Evaluation.{PlacedFormula, TreeEvaluatesTo}}
use Rattle.mob_operators.specs.declared.operator.Op.TheVariants as op
use Rattle.mob_meaning.specs.declared.terms.Terms.{Terms}

-- whether an operator reads the row at a place
abbrev pub reads : ℕ → Op → Bool
reads place (op.Column from column) = from == place
reads place _ = false

-- whether an expression names the table of a place
abbrev mutual
  pub names : ℕ → TypedTree → Bool
  names place (typed o ty at args) = reads place o || any_names place args

  pub any_names : ℕ → TypedTrees → Bool
  any_names place none = false
  any_names place (more e es) = names place e || any_names place es

-- two tuples have the same row at each place that an expression names, or none there
abbrev pub AgreeFor : TypedTree → List ℕ → List ℕ → Type 0
AgreeFor e p q = (place : ℕ) → names place e ≡ true → slice_get p place ≡ slice_get q place

-- an expression has the same outcomes on two tuples that agree for it
abbrev pub OutcomesDepend : Type 0
OutcomesDepend = (store : Store) (from : List ℕ) (terms : Terms) (p q : List ℕ) (e : TypedTree) (r : Result Value PlacedFormula) → AgreeFor e p q
    → TreeEvaluatesTo (scene store from p terms) e r → TreeEvaluatesTo (scene store from q terms) e r

-- an expression names only this place; without a place it names none
abbrev pub NamesOnly : Option ℕ → TypedTree → Type 0
NamesOnly (Some place) e = (other : ℕ) → names other e ≡ true → other ≡ place
NamesOnly None e = (other : ℕ) → names other e ≡ false

-- a tuple has this row at a place; without a place nothing is required
abbrev pub HasRow : Option ℕ → ℕ → List ℕ → Type 0
HasRow (Some place) row tuple = slice_get tuple place ≡ Some row
HasRow None row tuple = Unit {0}

-- the outcome of an expression on each tuple with this row at a place; without a place, on each
-- tuple
abbrev pub GivesOnRow : Store → List ℕ → Terms → Option ℕ → ℕ → TypedTree → Result Value PlacedFormula → Type 0
GivesOnRow store from terms place row e r = (tuple : List ℕ) → HasRow place row tuple → TreeEvaluatesTo (scene store from tuple terms) e r

-- An expression that names only one place has the same outcome on each tuple with the same row
-- there, and one that names no place has the same outcome on each tuple.
abbrev pub RowsDecide : Type 0
RowsDecide = (store : Store) (from : List ℕ) (terms : Terms) (place : Option ℕ) (row : ℕ) (tuple : List ℕ) (e : TypedTree) (r : Result Value PlacedFormula) → NamesOnly place e
    → HasRow place row tuple → TreeEvaluatesTo (scene store from tuple terms) e r → GivesOnRow store from terms place row e r
