-- Arithmetic, logic and joining have one value.
use Rattle.std.proofs.Common.{ℕ, Bool, List, sym, ◌∙◌, true, false, option_map, not}
use Rattle.mob_ratio.{specs.Ratio.{Ratio, ◌/ℚ◌}, specs.Order.{same}, proofs.Order.{same_exact}}
use Rattle.mob_span.specs.Flags.{same_bool, same_bool_exact}
use Rattle.mob_slice.{specs.CourseOf.{steady_course, line_course}, specs.Operands.{steady_value, map_both}, specs.Sameness.{same_bytes, same_bytes_exact}, specs.declared.slice.Slice.{Slice}}
use Rattle.mob_slice.{specs.Lines.{line_value_of}, specs.declared.line.Line.{Line}}
use Rattle.mob_value.{specs.declared.value.Value.{Value}, specs.declared.value.Value.TheVariants.{MovingBool, MovingInt, MovingFrac, MovingText, Number}}
use Rattle.mob_value.{specs.Moving.{OverTime, line_function, step_function}, specs.Lifted.{IsMovingBool, IsMovingInt, IsMovingText, IsMovingFrac}, specs.Pairs.{number_pair, text_pair}}
use Rattle.mob_value.{specs.Lines.{line_pair, as_line}, proofs.OneValue.{operands_once, pair_once, or_null_once, function_once, Once}}
use Rattle.mob_ast.specs.declared.types.SqlType.{SqlType}
use Rattle.mob_lift.proofs.ByCourse.{one_of_lines, one_of_steps}
use Rattle.mob_arith.{specs.declared.sql.calculation.Calculation.{Calculation}, specs.declared.sql.calculation.Calculation.TheVariants.{Sum, Difference, Product}}
use Rattle.mob_arith.{specs.Sql.Arithmetic.{IsLineArithmetic, IsArithmetic, IsQuotientOf, IsLineQuotient, IsDivided, is_nil}, specs.Sql.Calculations.{result_by}, specs.Sql.Factors.{product_pair}}
use Rattle.mob_arith.{specs.Operations.{text_of}, specs.Sql.Lifting.{IsLiftedNot, IsJoined}}
use Rattle.mob_ast.specs.declared.types.SqlType.TheVariants as sql

pub truth_once : {X Y : Type 0} (f : X → Y → Bool) (left : OverTime X) (right : OverTime Y) → Once (IsMovingBool f left right)
truth_once f left right v w h k = or_null_once (steady_course same_bool) (one_of_steps same_bool same_bool_exact) MovingBool (λ t. map_both f (left t) (right t)) v w h k

int_once : {X Y : Type 0} (f : X → Y → Ratio) (left : OverTime X) (right : OverTime Y) → Once (IsMovingInt f left right)
int_once f left right v w h k = or_null_once (steady_course same) (one_of_steps same same_exact) MovingInt (λ t. map_both f (left t) (right t)) v w h k

text_once : {X Y : Type 0} (f : X → Y → List ℕ) (left : OverTime X) (right : OverTime Y) → Once (IsMovingText f left right)
text_once f left right v w h k = or_null_once (steady_course same_bytes) (one_of_steps same_bytes same_bytes_exact) MovingText (λ t. map_both f (left t) (right t)) v w h k

frac_once : {X Y : Type 0} (f : X → Y → Ratio) (left : OverTime X) (right : OverTime Y) → Once (IsMovingFrac f left right)
frac_once f left right v w h k = or_null_once line_course one_of_lines MovingFrac (λ t. map_both f (left t) (right t)) v w h k

-- an operation on numbers has one value in each type
line_arithmetic_once : (by : Calculation) (a b : Value) → Once (IsLineArithmetic by a b)
line_arithmetic_once Sum a b v w h k = operands_once line_value_of line_value_of (line_pair a b) (IsMovingFrac (result_by Sum)) (frac_once (result_by Sum)) v w h k
line_arithmetic_once Difference a b v w h k = operands_once line_value_of line_value_of (line_pair a b) (IsMovingFrac (result_by Difference)) (frac_once (result_by Difference)) v w h k
line_arithmetic_once Product a b v w h k = operands_once line_value_of steady_value (product_pair a b) (IsMovingFrac (result_by Product)) (frac_once (result_by Product)) v w h k

pub arithmetic_once : (by : Calculation) (ty : SqlType) (a b : Value) → Once (IsArithmetic by ty a b)
arithmetic_once by sql.TInt a b v w h k = pair_once (number_pair a b) (IsMovingInt (result_by by)) (int_once (result_by by)) v w h k
arithmetic_once by sql.TFrac a b v w h k = line_arithmetic_once by a b v w h k
arithmetic_once by _ a b v w h k = h ∙ sym k

quotient_once : (nil : Bool) (a : List (Slice Line)) (k : Ratio) → Once (IsQuotientOf nil a k)
quotient_once true a k v w h g = h ∙ sym g
quotient_once false a k v w h g = function_once line_course one_of_lines MovingFrac (λ t. option_map (λ x. x /ℚ k) (line_function a t)) v w h g

line_quotient_once : (a b : Value) → Once (IsLineQuotient a b)
line_quotient_once (MovingFrac a) (Number k) v w h g = quotient_once (is_nil k) a k v w h g
line_quotient_once _ _ v w h g = h ∙ sym g

pub divided_once : (ty : SqlType) (a b : Value) → Once (IsDivided ty a b)
divided_once sql.TFrac a b v w h k = line_quotient_once (as_line a) b v w h k
divided_once _ a b v w h k = h ∙ sym k

pub not_once : (a : Value) → Once (IsLiftedNot a)
not_once (MovingBool a) v w h k = function_once (steady_course same_bool) (one_of_steps same_bool same_bool_exact) MovingBool (λ t. option_map not (step_function a t)) v w h k
not_once _ v w h k = h ∙ sym k

pub joined_once : (ty : SqlType) (a b : Value) → Once (IsJoined ty a b)
joined_once sql.TText a b v w h k = pair_once (text_pair a b) (IsMovingText text_of) (text_once text_of) v w h k
joined_once _ a b v w h k = h ∙ sym k
