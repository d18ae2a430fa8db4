-- Why a key asks for all rows.
use Rattle.std.specs.Prelude.{◌≡◌, ◌≢◌, ◌⊎◌, true, Ok, Err}
use Rattle.mob_ratio.specs.Ratio.{Ratio}
use Rattle.mob_frac.specs.Formula.{AllFit}
use Rattle.mob_plane.specs.Rings.{are_sound}
use Rattle.mob_stbox.{specs.Boxes.{BoxOf}, specs.Expansion.{parts_of_expansion}}
use Rattle.mob_typed.specs.Trees.{TypedTree}
use Rattle.mob_ast.specs.declared.types.SqlType.{SqlType}
use Rattle.mob_value.{specs.Types.{is_of_type}, specs.ValueBoxes.{IsBoxOf}, specs.declared.value.Value.{Value}, specs.declared.value.Value.TheVariants.{Null, Number, Polygon, MovingPoint}}
use Rattle.mob_meets.specs.Covers.{IsLookedForBy}
use Rattle.mob_plan.specs.Keys.{PlanKey, overlap_key, within_key, inside_key}
use Rattle.mob_eval.{specs.declared.keys.Probe.TheVariants.{Everything}, specs.Keys.{KeyAsks}}
use Rattle.mob_meaning.{specs.Scene.{Scene}, specs.Evaluation.{PlacedFormula, TreeEvaluatesTo}}
use Rattle.mob_ast.specs.declared.types.SqlType.TheVariants as sql

-- like stored values: a moving point has a box, and the rings of a polygon are closed and have at
-- least four points
abbrev pub IsAsStored : Value → Type 0
IsAsStored (MovingPoint a) = (b : BoxOf) × IsBoxOf a b
IsAsStored (Polygon rings) = are_sound rings ≡ true
IsAsStored _ = Unit {0}

-- a value of one of two types, like a stored value
pub record IsEitherOf (type other : SqlType) (v : Value) : Type 0 where
  pub form : (is_of_type type v ≡ true) ⊎ (is_of_type other v ≡ true)
  pub stored : IsAsStored v

-- each value of an expression satisfies P
abbrev pub Gives : Scene → TypedTree → (Value → Type 0) → Type 0
Gives s e P = (v : Value) → TreeEvaluatesTo s e (Ok v) → P v

-- The expressions of a key have their types: a box or a moving point for `&&`, a point or a moving
-- point and a number for eDwithin, and a polygon for eIntersects.
abbrev pub HasItsTypes : Scene → PlanKey → Type 0
HasItsTypes s (overlap_key e) = Gives s e (IsEitherOf sql.Box sql.TPoint)
HasItsTypes s (within_key e d) = Gives s e (IsEitherOf sql.Point sql.TPoint) × Gives s d (λ w. is_of_type sql.Numeric w ≡ true)
HasItsTypes s (inside_key e) = Gives s e (IsEitherOf sql.Polygon sql.Polygon)

-- an expression has a fault
abbrev pub HasFault : Scene → TypedTree → Type 0
HasFault s e = (f : PlacedFormula) × TreeEvaluatesTo s e (Err f)

-- the box of the value, expanded by the distance, has a side that does not fit
pub record DoesNotExpand (s : Scene) (e d : TypedTree) : Type 0 where
  pub value : Value
  pub is_value : TreeEvaluatesTo s e (Ok value)
  pub box : BoxOf
  pub is_box : IsLookedForBy value box
  pub distance : Ratio
  pub is_distance : TreeEvaluatesTo s d (Ok (Number distance))
  pub unfit : AllFit (parts_of_expansion box distance) → ⊥

-- the first expression has a value that is not NULL, and the second one a fault
abbrev pub HasLaterFault : Scene → TypedTree → TypedTree → Type 0
HasLaterFault s e d = (v : Value) × TreeEvaluatesTo s e (Ok v) × (v ≢ Null) × HasFault s d

-- why a key asks for all rows: the expression that decides has a fault, or the box cannot be
-- expanded
abbrev pub IsWithoutBox : Scene → PlanKey → Type 0
IsWithoutBox s (overlap_key e) = HasFault s e
IsWithoutBox s (within_key e d) = HasFault s e ⊎ HasLaterFault s e d ⊎ DoesNotExpand s e d
IsWithoutBox s (inside_key e) = HasFault s e

-- a well-typed key that asks for all rows has such a cause
abbrev pub EverythingHasACause : Type 0
EverythingHasACause = (s : Scene) (key : PlanKey) → HasItsTypes s key → KeyAsks s key Everything → IsWithoutBox s key
