-- Two operands of an operator at each instant, at least one of which is temporal.
use Rattle.std.{specs.Prelude.{◌≡◌, Bool, ℕ, List, [], Option, Some, None, MatchOption}, specs.List.{flat_map}}
use Rattle.mob_ratio.specs.Ratio.{Ratio}
use Rattle.mob_span.specs.Meets.{PieceOf}
use Rattle.mob_slice.{specs.Operands.{steady_value}, specs.Entries.{Entry}, specs.Sides.{SideOf, OperandOf, Slices, Base, operand_of, given_at, pieces}, specs.declared.steady.Steady.{Steady}}
use Rattle.mob_slice.{specs.declared.operand.Operand.{Operand}, specs.declared.line.Line.{Line}, specs.declared.line.PlaneLine.{PlaneLine}}
use Rattle.mob_plane.specs.declared.point.Point.{Point as PointOf}
use Rattle.mob_value.{specs.declared.value.Value.{Value}, specs.declared.value.Value.TheVariants.{Null, Bool as Truth, Number, Text, MovingBool, MovingInt, MovingText, Point, MovingFrac, MovingPoint}}
use Rattle.mob_value.specs.Moving.{OverTime}

-- an operand that changes in steps: the slices of a temporal value, or a base value
abbrev pub SteadyOperand : Type 0 → Type 0
SteadyOperand B = OperandOf (Steady B) B

abbrev pub LineOperand : Type 0
LineOperand = OperandOf Line Ratio

abbrev pub PlaneOperand : Type 0
PlaneOperand = OperandOf PlaneLine PointOf

-- a truth value as an operand, if the value is one
abbrev pub truth_operand : Value → Option (SteadyOperand Bool)
truth_operand (MovingBool a) = Some (Slices a)
truth_operand (Truth a) = Some (Base a)
truth_operand _ = None

-- a number that changes in steps
abbrev pub number_operand : Value → Option (SteadyOperand Ratio)
number_operand (MovingInt a) = Some (Slices a)
number_operand (Number a) = Some (Base a)
number_operand _ = None

abbrev pub text_operand : Value → Option (SteadyOperand (List ℕ))
text_operand (MovingText a) = Some (Slices a)
text_operand (Text a) = Some (Base a)
text_operand _ = None

-- a number that changes linearly
abbrev pub frac_operand : Value → Option LineOperand
frac_operand (MovingFrac a) = Some (Slices a)
frac_operand (Number a) = Some (Base a)
frac_operand _ = None

abbrev pub point_operand : Value → Option PlaneOperand
point_operand (MovingPoint a) = Some (Slices a)
point_operand (Point a) = Some (Base a)
point_operand _ = None

-- two operands, if both exist and at least one of them is temporal
abbrev pub paired : {C B : Type 0} → Option (OperandOf C B) → Option (OperandOf C B) → Option (OperandOf C B × OperandOf C B)
paired (Some (Base a)) (Some (Base b)) = None
paired (Some a) (Some b) = Some (a, b)
paired _ _ = None

-- two operands that change in steps, at least one of which is temporal
abbrev pub Pair : Type 0 → Type 0
Pair B = Option (SteadyOperand B × SteadyOperand B)

-- two truth values
abbrev pub truth_pair : Value → Value → Pair Bool
truth_pair a b = paired (truth_operand a) (truth_operand b)

-- two numbers
abbrev pub number_pair : Value → Value → Pair Ratio
number_pair a b = paired (number_operand a) (number_operand b)

-- two texts
abbrev pub text_pair : Value → Value → Pair (List ℕ)
text_pair a b = paired (text_operand a) (text_operand b)

-- two numbers, at least one of which is a tfrac, and neither a tint
abbrev pub frac_pair : Value → Value → Option (LineOperand × LineOperand)
frac_pair a b = paired (frac_operand a) (frac_operand b)

-- two points
abbrev pub plane_pair : Value → Value → Option (PlaneOperand × PlaneOperand)
plane_pair a b = paired (point_operand a) (point_operand b)

-- what contracts see of two operands
abbrev pub operands_of : {A X B Y : Type 0} → Operand A X × Operand B Y → OperandOf A X × OperandOf B Y
operands_of p = (operand_of p.0, operand_of p.1)

-- What holds of v if the operands are a pair, each of a course with these values; NULL if they are
-- not.
abbrev pub OnOperands : {A X B Y : Type 0} → (A → Ratio → Ratio → Ratio → X) → (B → Ratio → Ratio → Ratio → Y) → Option (OperandOf A X × OperandOf B Y) → (OverTime X → OverTime Y → Value → Type 0) → Value → Type 0
OnOperands value value' pair row v = MatchOption pair (v ≡ Null) (λ p. row (given_at value p.0) (given_at value' p.1) v)

-- what holds of v if the operands are a pair that changes in steps; NULL if they are not
abbrev pub OnPair : {B : Type 0} → Pair B → (OverTime B → OverTime B → Value → Type 0) → Value → Type 0
OnPair pair row v = OnOperands steady_value steady_value pair row v

-- the entries of an operator on two operands: those on each piece that they share
abbrev pub entries_on : {A X B Y : Type 0} → (PieceOf (SideOf A X) (SideOf B Y) → List Entry) → Option (OperandOf A X × OperandOf B Y) → List Entry
entries_on entries None = []
entries_on entries (Some p) = flat_map entries (pieces p.0 p.1)
