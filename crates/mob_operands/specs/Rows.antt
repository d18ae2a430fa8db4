-- The results of the operators of the table on values of the types that they take.
use Rattle.std.{specs.Prelude.{◌≡◌, ◌⊎◌, ℕ, Bool, true, false, List, [], ◌∷◌, Option, Some, None, is_some}, specs.List.{AllByRecursion, AllZip, list_any}}
use Rattle.mob_ratio.specs.Ratio.{Ratio}
use Rattle.mob_span.{specs.Sets.{in_some}, specs.Flags.{same_bool}}
use Rattle.mob_plane.specs.Membership.{inside}
use Rattle.mob_stbox.{specs.Boxes.{BoxOf, in_box}, specs.Expansion.{expanded}}
use Rattle.mob_slice.{specs.LineComparison.{point_relates, number_relates}, specs.declared.comparison.Rel.TheVariants.{Eq}}
use Rattle.mob_cells.specs.Cells.{instant_span}
use Rattle.mob_ast.specs.declared.types.SqlType.{SqlType}
use Rattle.mob_operators.{specs.declared.operator.Op.{Op}, specs.Lookup.{Line, takes, given}, specs.Table.{table}}
use Rattle.mob_expression.specs.Expressions.{can_cast}
use Rattle.mob_value.{specs.ValueBoxes.{HasBox}, specs.declared.value.Value.{Value}}
use Rattle.mob_value.specs.declared.value.Value.TheVariants.{Null, Bool as Truth, Number, Text, Moment, Point, Polygon, Span, SpanSet, Box, MovingBool, MovingInt, MovingFrac, MovingText, MovingPoint}
use Rattle.mob_value.{specs.Moving.{step_function, line_function, plane_function}, specs.Relations.{text_relates, truth_relates}}
use Rattle.mob_ordinary.specs.Ordinary.{is_null}
use Rattle.mob_arith.specs.Sql.Arithmetic.{is_nil}
use Rattle.mob_meaning.{specs.Scene.{Scene}, specs.Evaluation.{stops, stop_of}, specs.Operators.{OperatorGives}}
use Rattle.mob_catalog.specs.OwnTypes.{IsValueOf}
use Rattle.mob_ast.specs.declared.types.SqlType.TheVariants as sql
use Rattle.mob_operators.specs.declared.operator.Op.TheVariants as op

-- whether a value exists at an instant: a temporal value where it is defined, any other value at
-- every instant, NULL at none
abbrev pub is_there : Ratio → Value → Bool
is_there t Null = false
is_there t (MovingBool a) = is_some (step_function a t)
is_there t (MovingInt a) = is_some (step_function a t)
is_there t (MovingFrac a) = is_some (line_function a t)
is_there t (MovingText a) = is_some (step_function a t)
is_there t (MovingPoint a) = is_some (plane_function a t)
is_there t _ = true

-- at no instant do all operands exist
abbrev pub AreNeverTogether : List Value → Type 0
AreNeverTogether vs = (t : Ratio) → AllByRecursion (λ v. is_there t v ≡ true) vs → ⊥

-- one of the operands is NULL
abbrev pub HaveNull : List Value → Type 0
HaveNull vs = list_any is_null vs ≡ true

-- whether there is a value and it passes a test
abbrev pub passes : {B : Type 0} → (B → Bool) → Option B → Bool
passes test None = false
passes test (Some x) = test x

-- whether a moment, a span or a span set has an instant, whatever value is restricted to it
abbrev pub is_asked : Value → Value → Ratio → Bool
is_asked a (Moment u) t = in_some (instant_span u ∷ []) t
is_asked a (Span s) t = in_some (s ∷ []) t
is_asked a (SpanSet spans) t = in_some spans t
is_asked a _ t = false

-- whether a temporal value equals a base value at an instant
abbrev pub is_then : Value → Value → Ratio → Bool
is_then (MovingBool a) (Truth x) t = passes (λ y. truth_relates Eq y x) (step_function a t)
is_then (MovingInt a) (Number x) t = passes (λ y. number_relates Eq y x) (step_function a t)
is_then (MovingFrac a) (Number x) t = passes (λ y. number_relates Eq y x) (line_function a t)
is_then (MovingText a) (Text x) t = passes (λ y. text_relates Eq y x) (step_function a t)
is_then (MovingPoint a) (Point x) t = passes (λ y. point_relates Eq y x) (plane_function a t)
is_then _ _ t = false

-- whether a moving point is in a box or in a polygon at an instant
abbrev pub is_within : Value → Value → Ratio → Bool
is_within (MovingPoint a) (Box b) t = passes (λ p. in_box b t p) (plane_function a t)
is_within (MovingPoint a) (Polygon rings) t = passes (λ p. inside rings p) (plane_function a t)
is_within _ _ t = false

-- At no instant does a temporal value satisfy a condition on the second operand, if `want` is true;
-- or it does at each, if `want` is false.
abbrev pub NothingIsLeft : Bool → (Value → Value → Ratio → Bool) → List Value → Type 0
NothingIsLeft want meets (a ∷ b ∷ []) = (t : Ratio) → is_there t a ≡ true → same_bool want (meets a b t) ≡ false
NothingIsLeft want meets _ = ⊥

-- a temporal value is undefined at the given moment
abbrev pub IsMissing : List Value → Type 0
IsMissing (a ∷ Moment t ∷ []) = is_there t a ≡ false
IsMissing _ = ⊥

-- a tbool is true at no instant
abbrev pub IsNeverTrue : List Value → Type 0
IsNeverTrue (MovingBool a ∷ []) = (t : Ratio) → step_function a t ≡ Some true → ⊥
IsNeverTrue _ = ⊥

-- the box of the first operand, expanded by the second one, does not exist
abbrev pub HasNoExpansion : List Value → Type 0
HasNoExpansion (a ∷ Number d ∷ []) = (b : BoxOf) × HasBox a b × (expanded b d ≡ None)
HasNoExpansion _ = ⊥

-- an operator on numbers or texts whose result has this type: with a temporal result it applies at
-- each instant
abbrev pub NullByType : SqlType → List Value → Type 0
NullByType sql.TInt vs = AreNeverTogether vs
NullByType sql.TFrac vs = AreNeverTogether vs
NullByType sql.TText vs = AreNeverTogether vs
NullByType _ vs = HaveNull vs

-- When an operator may give NULL. One that applies at each instant, or asks for some or every
-- instant, only if the operands never exist together. A restriction only for a NULL, or if nothing
-- is left. Any other only for a NULL.
abbrev pub NullIsDue : Op → SqlType → List Value → Type 0
NullIsDue (op.Lifted c) ty vs = AreNeverTogether vs
NullIsDue (op.Ever c) ty vs = AreNeverTogether vs
NullIsDue (op.Always c) ty vs = AreNeverTogether vs
NullIsDue op.LiftedAnd ty vs = AreNeverTogether vs
NullIsDue op.LiftedOr ty vs = AreNeverTogether vs
NullIsDue op.EDwithin ty vs = AreNeverTogether vs
NullIsDue op.NearestApproachSquared ty vs = AreNeverTogether vs
NullIsDue op.Add ty vs = NullByType ty vs
NullIsDue op.Subtract ty vs = NullByType ty vs
NullIsDue op.Multiply ty vs = NullByType ty vs
NullIsDue op.Divide ty vs = NullByType ty vs
NullIsDue op.Join ty vs = NullByType ty vs
NullIsDue op.AtTime ty vs = HaveNull vs ⊎ NothingIsLeft true is_asked vs
NullIsDue op.MinusTime ty vs = HaveNull vs ⊎ NothingIsLeft false is_asked vs
NullIsDue op.AtValues ty vs = HaveNull vs ⊎ NothingIsLeft true is_then vs
NullIsDue op.MinusValues ty vs = HaveNull vs ⊎ NothingIsLeft false is_then vs
NullIsDue op.AtStbox ty vs = HaveNull vs ⊎ NothingIsLeft true is_within vs
NullIsDue op.MinusStbox ty vs = HaveNull vs ⊎ NothingIsLeft false is_within vs
NullIsDue op.AtGeometry ty vs = HaveNull vs ⊎ NothingIsLeft true is_within vs
NullIsDue op.MinusGeometry ty vs = HaveNull vs ⊎ NothingIsLeft false is_within vs
NullIsDue op.ValueAtTimestamp ty vs = HaveNull vs ⊎ IsMissing vs
NullIsDue op.WhenTrue ty vs = HaveNull vs ⊎ IsNeverTrue vs
NullIsDue op.ExpandSpace ty vs = HaveNull vs ⊎ HasNoExpansion vs
NullIsDue _ ty vs = HaveNull vs

-- The value of an operator has the operator's type, with whole numbers if that requires them, and
-- is NULL only if that is due.
pub record IsAnswer (o : Op) (ty : SqlType) (vs : List Value) (v : Value) : Type 0 where
  pub own : IsValueOf ty v
  pub null : v ≡ Null → NullIsDue o ty vs

-- the divisor of `/` is not 0
abbrev pub DividesByOther : Op → List Value → Type 0
DividesByOther op.Divide (a ∷ Number k ∷ []) = is_nil k ≡ false
DividesByOther _ vs = Unit {0}

-- An operator with a result of this type has a meaning on operands of these types: its results on
-- values of the types are such answers.
abbrev pub HasMeaning : Op → SqlType → List SqlType → Type 0
HasMeaning o ty ts = (s : Scene) (vs : List Value) (v : Value) → AllZip IsValueOf ts vs → DividesByOther o vs → OperatorGives s o ty ts vs v → IsAnswer o ty vs v

-- this holds for each operator of a line, on all types that the line takes, with the type that it
-- gives
abbrev pub LineHasMeaning : Line → Type 0
LineHasMeaning l = (ts : List SqlType) (literal : Bool) (ty : SqlType) → takes l ts literal ≡ true → given l.gives ts ≡ Some ty → AllByRecursion (λ (n : List ℕ × Op). HasMeaning n.1 ty ts) l.names

-- and for each line of the table
abbrev pub RowsHaveMeanings : Type 0
RowsHaveMeanings = AllByRecursion LineHasMeaning table

-- a cast that typing accepts has a meaning too
abbrev pub CastsHaveMeanings : Type 0
CastsHaveMeanings = (from to : SqlType) → can_cast from to ≡ true → HasMeaning op.Cast to (from ∷ [])

-- a single operand that decides AND or OR is the value
abbrev pub SettledIsTheValue : Type 0
SettledIsTheValue = (s : Scene) (o : Op) (ty : SqlType) (ts : List SqlType) (a v : Value) → stops (stop_of o) a ≡ true → OperatorGives s o ty ts (a ∷ []) v → v ≡ a

-- whether an operator may give a value other than NULL for a NULL operand: AND, OR, IS NULL and IS
-- NOT NULL
abbrev pub knows_null : Op → Bool
knows_null op.And = true
knows_null op.Or = true
knows_null op.IsNull = true
knows_null op.IsNotNull = true
knows_null _ = false

-- any other operator gives NULL then, whatever the types
abbrev pub NullGivesNull : Type 0
NullGivesNull = (s : Scene) (o : Op) (ty : SqlType) (ts : List SqlType) (vs : List Value) (v : Value) → knows_null o ≡ false → HaveNull vs → OperatorGives s o ty ts vs v → v ≡ Null
