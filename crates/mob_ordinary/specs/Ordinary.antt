-- The ordinary operators. Each is NULL if an operand is NULL, or is not a value that it takes.
use Rattle.std.specs.Prelude.{◌≡◌, Bool, true, false, cond, ◌&&◌, ◌||◌, List, [], ◌∷◌, Option, Some, None}
use Rattle.mob_ratio.specs.Ratio.{Ratio, neg_ℚ}
use Rattle.mob_ast.specs.declared.types.Cmp.{Cmp}
use Rattle.mob_slice.{specs.declared.comparison.Rel.{Rel}, specs.Ranks.{holds, compare_ratio, compare_bytes}}
use Rattle.mob_span.{specs.Sets.{in_some}, specs.Span.{SpanOf}}
use Rattle.mob_value.specs.declared.value.Value.{Value}
use Rattle.mob_value.specs.declared.value.Value.TheVariants.{Null, Bool as Truth, Number, Text, Moment, Point, Span, SpanSet, Box, MovingBool, MovingInt, MovingFrac, MovingText, MovingPoint}
use Rattle.mob_value.{specs.Moving.{OverTime, step_function, line_function, plane_function}, specs.Truths.{IsTruthOf}, specs.Relations.{rel_of}}
use Rattle.mob_ast.specs.declared.types.Cmp.TheVariants as cmp

-- the truth value of a value, if it is one
abbrev pub truth_of : Value → Option Bool
truth_of (Truth b) = Some b
truth_of _ = None

-- whether a value is true
abbrev pub is_true_value : Value → Bool
is_true_value (Truth b) = b
is_true_value _ = false

-- AND: false if one operand is false, true if both are true
abbrev pub conjunction : Option Bool → Option Bool → Option Bool
conjunction (Some a) (Some b) = Some (a && b)
conjunction (Some a) None = cond a None (Some false)
conjunction None (Some b) = cond b None (Some false)
conjunction None None = None

-- OR: true if one operand is true, false if both are false
abbrev pub disjunction : Option Bool → Option Bool → Option Bool
disjunction (Some a) (Some b) = Some (a || b)
disjunction (Some a) None = cond a (Some true) None
disjunction None (Some b) = cond b (Some true) None
disjunction None None = None

-- whether a value is NULL
abbrev pub is_null : Value → Bool
is_null Null = true
is_null _ = false

-- two temporal values are one function of time: at each instant both have the same value, or
-- neither is defined
abbrev pub AreOneFunction : {B : Type 0} → OverTime B → OverTime B → Type 0
AreOneFunction f g = (t : Ratio) → f t ≡ g t

-- two sets have the same instants
abbrev pub HaveSameInstants : List SpanOf → List SpanOf → Type 0
HaveSameInstants a b = (t : Ratio) → in_some a t ≡ in_some b t

-- `=` if `wanted` is true, `<>` if it is false: points by coordinates, boxes by sides, spans and
-- span sets as sets of instants, temporal values as functions of time, whether they change in steps
-- or linearly
abbrev pub IsEquality : Bool → Value → Value → Value → Type 0
IsEquality wanted (Truth a) (Truth b) v = IsTruthOf wanted (a ≡ b) v
IsEquality wanted (Number a) (Number b) v = IsTruthOf wanted (a ≡ b) v
IsEquality wanted (Text a) (Text b) v = IsTruthOf wanted (a ≡ b) v
IsEquality wanted (Moment a) (Moment b) v = IsTruthOf wanted (a ≡ b) v
IsEquality wanted (Point a) (Point b) v = IsTruthOf wanted (a ≡ b) v
IsEquality wanted (Span a) (Span b) v = IsTruthOf wanted (HaveSameInstants (a ∷ []) (b ∷ [])) v
IsEquality wanted (SpanSet a) (SpanSet b) v = IsTruthOf wanted (HaveSameInstants a b) v
IsEquality wanted (Box a) (Box b) v = IsTruthOf wanted (a ≡ b) v
IsEquality wanted (MovingBool a) (MovingBool b) v = IsTruthOf wanted (AreOneFunction (step_function a) (step_function b)) v
IsEquality wanted (MovingInt a) (MovingInt b) v = IsTruthOf wanted (AreOneFunction (step_function a) (step_function b)) v
IsEquality wanted (MovingInt a) (MovingFrac b) v = IsTruthOf wanted (AreOneFunction (step_function a) (line_function b)) v
IsEquality wanted (MovingFrac a) (MovingInt b) v = IsTruthOf wanted (AreOneFunction (step_function b) (line_function a)) v
IsEquality wanted (MovingFrac a) (MovingFrac b) v = IsTruthOf wanted (AreOneFunction (line_function a) (line_function b)) v
IsEquality wanted (MovingText a) (MovingText b) v = IsTruthOf wanted (AreOneFunction (step_function a) (step_function b)) v
IsEquality wanted (MovingPoint a) (MovingPoint b) v = IsTruthOf wanted (AreOneFunction (plane_function a) (plane_function b)) v
IsEquality wanted _ _ v = v ≡ Null

-- an order relation: numbers and moments by size, texts by their bytes
abbrev pub ordered : Rel → Value → Value → Value
ordered r (Number a) (Number b) = Truth (holds r (compare_ratio a b))
ordered r (Text a) (Text b) = Truth (holds r (compare_bytes a b))
ordered r (Moment a) (Moment b) = Truth (holds r (compare_ratio a b))
ordered r _ _ = Null

-- the six plain comparisons
abbrev pub IsTest : Cmp → Value → Value → Value → Type 0
IsTest cmp.Eq a b v = IsEquality true a b v
IsTest cmp.Ne a b v = IsEquality false a b v
IsTest c a b v = v ≡ ordered (rel_of c) a b

-- the negative of a number
abbrev pub negated : Value → Value
negated (Number a) = Number (neg_ℚ a)
negated _ = Null

-- a number unchanged
abbrev pub unchanged : Value → Value
unchanged (Number a) = Number a
unchanged _ = Null
