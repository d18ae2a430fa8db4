-- Arithmetic by the type of its result: on plain numbers, and at each instant on numbers that
-- change in steps or linearly.
use Rattle.std.specs.Prelude.{◌≡◌, Bool, true, false, cond, pos, List, option_map}
use Rattle.mob_ratio.{specs.Ratio.{Ratio, whole, ◌/ℚ◌}, specs.Order.{same}}
use Rattle.mob_value.{specs.declared.value.Value.{Value}, specs.declared.value.Value.TheVariants.{Null, Number, MovingFrac}, specs.Moving.{line_function, IsFunction}}
use Rattle.mob_value.{specs.Lifted.{IsMovingInt, IsMovingFrac}, specs.Pairs.{OnOperands, OnPair, number_pair}, specs.Lines.{as_line, line_pair}}
use Rattle.mob_slice.{specs.CourseOf.{line_course}, specs.Lines.{line_value_of}, specs.Operands.{steady_value}, specs.declared.line.Line.{Line}, specs.declared.slice.Slice.{Slice}}
use Rattle.mob_ast.specs.declared.types.SqlType.{SqlType}
use Rattle.mob_arith.{specs.declared.sql.calculation.Calculation.{Calculation}, specs.declared.sql.calculation.Calculation.TheVariants.{Sum, Difference, Product}, specs.Sql.Calculations.{result_by}}
use Rattle.mob_arith.specs.Sql.Factors.{product_pair}
use Rattle.mob_ast.specs.declared.types.SqlType.TheVariants as sql

-- whether a number is 0
abbrev pub is_nil : Ratio → Bool
is_nil a = same a (whole (pos 0))

-- an operation on two plain numbers
abbrev pub on_numbers : (Ratio → Ratio → Ratio) → Value → Value → Value
on_numbers f (Number a) (Number b) = Number (f a b)
on_numbers f _ _ = Null

-- An operation at each instant on linear numbers. In a product one of the two changes in steps: the
-- product of two linear numbers is not linear.
abbrev pub IsLineArithmetic : Calculation → Value → Value → Value → Type 0
IsLineArithmetic Sum a b v = OnOperands line_value_of line_value_of (line_pair a b) (IsMovingFrac (result_by Sum)) v
IsLineArithmetic Difference a b v = OnOperands line_value_of line_value_of (line_pair a b) (IsMovingFrac (result_by Difference)) v
IsLineArithmetic Product a b v = OnOperands line_value_of steady_value (product_pair a b) (IsMovingFrac (result_by Product)) v

-- an operation on numbers with a result of this type: on plain numbers, or at each instant
abbrev pub IsArithmetic : Calculation → SqlType → Value → Value → Value → Type 0
IsArithmetic by sql.Int a b v = v ≡ on_numbers (result_by by) a b
IsArithmetic by sql.Numeric a b v = v ≡ on_numbers (result_by by) a b
IsArithmetic by sql.TInt a b v = OnPair (number_pair a b) (IsMovingInt (result_by by)) v
IsArithmetic by sql.TFrac a b v = IsLineArithmetic by a b v
IsArithmetic by _ a b v = v ≡ Null

-- a number divided by another; NULL if the divisor is 0, which typing excludes
abbrev pub quotient : Value → Value → Value
quotient (Number a) (Number b) = cond (is_nil b) Null (Number (a /ℚ b))
quotient _ _ = Null

-- v is at each instant a linear number divided by k; the first argument is whether k is 0, and then
-- v is NULL
abbrev pub IsQuotientOf : Bool → List (Slice Line) → Ratio → Value → Type 0
IsQuotientOf true a k v = v ≡ Null
IsQuotientOf false a k v = IsFunction line_course MovingFrac (λ t. option_map (λ x. x /ℚ k) (line_function a t)) v

abbrev pub IsLineQuotient : Value → Value → Value → Type 0
IsLineQuotient (MovingFrac a) (Number k) v = IsQuotientOf (is_nil k) a k v
IsLineQuotient _ _ v = v ≡ Null

-- `/` with a result of this type
abbrev pub IsDivided : SqlType → Value → Value → Value → Type 0
IsDivided sql.Numeric a b v = v ≡ quotient a b
IsDivided sql.TFrac a b v = IsLineQuotient (as_line a) b v
IsDivided _ a b v = v ≡ Null
