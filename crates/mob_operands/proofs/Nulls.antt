-- Operators other than AND, OR, IS NULL and IS NOT NULL are NULL if an operand is NULL, whatever
-- the types of the operands.
use Rattle.std.{specs.Prelude.{cond, MatchOption}, proofs.Common.{◌≡◌, ◌∙◌, ℕ, Bool, true, false, true≢false, List, [], ◌∷◌, Option, Some, None, ◌⊎◌, inl, inr, refl, sym, subst}}
use Rattle.mob_ratio.specs.Ratio.{Ratio}
use Rattle.mob_span.specs.Span.{SpanOf}
use Rattle.mob_plane.specs.declared.point.Point.{Point as PointOf}
use Rattle.mob_slice.{specs.LineComparison.{point_relates, number_relates}, specs.Lines.{line_value_of, plane_value_of}, specs.Operands.{steady_value}, specs.declared.comparison.Rel.{Rel}}
use Rattle.mob_arith.{specs.Operations.{both_hold, one_holds, text_of}, specs.declared.sql.calculation.Calculation.{Calculation}}
use Rattle.mob_arith.{specs.declared.sql.calculation.Calculation.TheVariants.{Sum, Difference, Product}, specs.Sql.Arithmetic.{IsArithmetic, IsDivided}, specs.Sql.Calculations.{result_by}}
use Rattle.mob_arith.{specs.Sql.Factors.{product_pair}, specs.Sql.Lifting.{IsJoined}}
use Rattle.mob_near.{specs.Distances.{are_within}, specs.Sql.Nearness.{IsApproachValue, IsEverWithin}}
use Rattle.mob_ast.{specs.declared.types.Cmp.{Cmp}, specs.declared.types.SqlType.{SqlType}}
use Rattle.mob_operators.{specs.Lookup.{same_type}, specs.declared.operator.Op.{Op}}
use Rattle.mob_value.{specs.declared.value.Value.{Value}, specs.declared.value.Value.TheVariants.{Null, Bool as Truth, Number}, specs.Moving.{OverTime}}
use Rattle.mob_value.{specs.Relations.{rel_of, text_relates, truth_relates}, specs.Pairs.{OnOperands, OnPair, truth_pair, number_pair, text_pair, plane_pair}}
use Rattle.mob_value.{specs.Lifted.{IsMovingBool, IsMovingInt, IsMovingText, IsMovingFrac}, specs.Lines.{line_pair}}
use Rattle.mob_ordinary.specs.Ordinary.{IsTest}
use Rattle.mob_compare.{specs.declared.sql.when.When.{When as Asking}, specs.declared.sql.when.When.TheVariants.{Each, Ever, Always}, specs.Sql.Signs.{IsAsked, IsOrderTest, IsAnyTest, IsSignTest}}
use Rattle.mob_meaning.{specs.Operators.{GivesOfOne, GivesOfTwo, GivesOfThree}, specs.Scene.{Scene}, specs.Types.{meeting, IsCastTo, IsCast}}
use Rattle.mob_restrict.specs.Sql.Times.{asked_spans, IsRestriction}
use Rattle.mob_operands.{specs.Rows.{HaveNull, knows_null, NullGivesNull}, proofs.Distances.{expansion_right}, proofs.Numbers.{product_right, quotient_right, dividend_right}}
use Rattle.mob_operands.{proofs.Plain.{beside_null, order_right, number_right, join_right}, proofs.Restricted.{value_right, box_right, polygon_right, look_left}}
use Rattle.mob_operands.{proofs.Single.{overlap_right, intersecting_right}, proofs.Together.{truth_right, text_right, point_right, int_right, line_right}}
use Rattle.mob_ast.specs.declared.types.Cmp.TheVariants as cmp
use Rattle.mob_ast.specs.declared.types.SqlType.TheVariants as sql
use Rattle.mob_operators.specs.declared.operator.Op.TheVariants as op

-- what is required of a pair, if the second operand is NULL

truths_right : (row : OverTime Bool → OverTime Bool → Value → Type 0) (a v : Value) → OnPair (truth_pair a Null) row v → v ≡ Null
truths_right row a v g = subst (λ p. OnPair p row v) (truth_right a) g

numbers_right : (row : OverTime Ratio → OverTime Ratio → Value → Type 0) (a v : Value) → OnPair (number_pair a Null) row v → v ≡ Null
numbers_right row a v g = subst (λ p. OnPair p row v) (int_right a) g

texts_right : (row : OverTime (List ℕ) → OverTime (List ℕ) → Value → Type 0) (a v : Value) → OnPair (text_pair a Null) row v → v ≡ Null
texts_right row a v g = subst (λ p. OnPair p row v) (text_right a) g

lines_right : (row : OverTime Ratio → OverTime Ratio → Value → Type 0) (a v : Value) → OnOperands line_value_of line_value_of (line_pair a Null) row v → v ≡ Null
lines_right row a v g = subst (λ p. OnOperands line_value_of line_value_of p row v) (line_right a) g

points_right : (row : OverTime PointOf → OverTime PointOf → Value → Type 0) (a v : Value) → OnOperands plane_value_of plane_value_of (plane_pair a Null) row v → v ≡ Null
points_right row a v g = subst (λ p. OnOperands plane_value_of plane_value_of p row v) (point_right a) g

factors_right : (row : OverTime Ratio → OverTime Ratio → Value → Type 0) (a v : Value) → OnOperands line_value_of steady_value (product_pair a Null) row v → v ≡ Null
factors_right row a v g = subst (λ p. OnOperands line_value_of steady_value p row v) (product_right a) g

-- ---- one operand

either_null : (b : Bool) → cond b Null Null ≡ Null
either_null true = refl
either_null false = refl

cast_to : (from to : SqlType) (v : Value) → IsCastTo from to Null v → v ≡ Null
cast_to sql.Int sql.Numeric v g = g
cast_to sql.TInt sql.TFrac v g = g
cast_to from to v g = g ∙ either_null (same_type from to)

cast_null : (ts : List SqlType) (ty : SqlType) (v : Value) → IsCast ts ty Null v → v ≡ Null
cast_null [] ty v g = g
cast_null (from ∷ []) ty v g = cast_to from ty v g
cast_null (from ∷ other ∷ ts) ty v g = g

of_null : (s : Scene) (o : Op) (ty : SqlType) (ts : List SqlType) (v : Value) → knows_null o ≡ false → GivesOfOne s o ty ts Null v → v ≡ Null
of_null s op.And ty ts v n g = absurd (true≢false n)
of_null s op.Or ty ts v n g = absurd (true≢false n)
of_null s op.IsNull ty ts v n g = absurd (true≢false n)
of_null s op.IsNotNull ty ts v n g = absurd (true≢false n)
of_null s op.Cast ty ts v n g = cast_null ts ty v g
of_null s _ ty ts v n g = g

-- ---- two operands, the first NULL

arithmetic_left : (by : Calculation) (ty : SqlType) (b v : Value) → IsArithmetic by ty Null b v → v ≡ Null
arithmetic_left Sum sql.TFrac b v g = g
arithmetic_left Difference sql.TFrac b v g = g
arithmetic_left Product sql.TFrac b v g = g
arithmetic_left by _ b v g = g

divided_left : (ty : SqlType) (b v : Value) → IsDivided ty Null b v → v ≡ Null
divided_left sql.Numeric b v g = g
divided_left _ b v g = g

joined_left : (ty : SqlType) (b v : Value) → IsJoined ty Null b v → v ≡ Null
joined_left sql.Text b v g = g
joined_left _ b v g = g

test_left : (c : Cmp) (b v : Value) → IsTest c Null b v → v ≡ Null
test_left cmp.Eq b v g = g
test_left _ b v g = g

order_sign_left : (scope : Asking) (r : Rel) (met : Option SqlType) (b v : Value) → IsOrderTest scope r met Null b v → v ≡ Null
order_sign_left scope r None b v g = g
order_sign_left scope r (Some sql.TInt) b v g = g
order_sign_left scope r (Some _) b v g = g

any_sign_left : (scope : Asking) (r : Rel) (met : Option SqlType) (b v : Value) → IsAnyTest scope r met Null b v → v ≡ Null
any_sign_left scope r None b v g = g
any_sign_left scope r (Some sql.TInt) b v g = g
any_sign_left scope r (Some _) b v g = g

sign_left : (scope : Asking) (c : Cmp) (met : Option SqlType) (b v : Value) → IsSignTest scope c met Null b v → v ≡ Null
sign_left scope cmp.Eq met b v g = any_sign_left scope (rel_of cmp.Eq) met b v g
sign_left scope cmp.Ne met b v g = any_sign_left scope (rel_of cmp.Ne) met b v g
sign_left scope cmp.Lt met b v g = order_sign_left scope (rel_of cmp.Lt) met b v g
sign_left scope cmp.Le met b v g = order_sign_left scope (rel_of cmp.Le) met b v g
sign_left scope cmp.Gt met b v g = order_sign_left scope (rel_of cmp.Gt) met b v g
sign_left scope cmp.Ge met b v g = order_sign_left scope (rel_of cmp.Ge) met b v g

time_left : (want : Bool) (spans : Option (List SpanOf)) (v : Value) → MatchOption spans (v ≡ Null) (λ spans. IsRestriction want spans Null v) → v ≡ Null
time_left want None v g = g
time_left want (Some spans) v g = g

first_of_two : (o : Op) (ty : SqlType) (ts : List SqlType) (b v : Value) → knows_null o ≡ false → GivesOfTwo o ty ts Null b v → v ≡ Null
first_of_two op.And ty ts b v n g = absurd (true≢false n)
first_of_two op.Or ty ts b v n g = absurd (true≢false n)
first_of_two (op.Test c) ty ts b v n g = test_left c b v g
first_of_two op.Add ty ts b v n g = arithmetic_left Sum ty b v g
first_of_two op.Subtract ty ts b v n g = arithmetic_left Difference ty b v g
first_of_two op.Multiply ty ts b v n g = arithmetic_left Product ty b v g
first_of_two op.Divide ty ts b v n g = divided_left ty b v g
first_of_two op.Join ty ts b v n g = joined_left ty b v g
first_of_two (op.Lifted c) ty ts b v n g = sign_left Each c (meeting ts) b v g
first_of_two (op.Ever c) ty ts b v n g = sign_left Ever c (meeting ts) b v g
first_of_two (op.Always c) ty ts b v n g = sign_left Always c (meeting ts) b v g
first_of_two op.AtTime ty ts b v n g = time_left true (asked_spans b) v g
first_of_two op.MinusTime ty ts b v n g = time_left false (asked_spans b) v g
first_of_two op.ValueAtTimestamp ty ts b v n g = g ∙ look_left b
first_of_two _ ty ts b v n g = g

-- ---- two operands, the second NULL

arithmetic_right : (by : Calculation) (ty : SqlType) (a v : Value) → IsArithmetic by ty a Null v → v ≡ Null
arithmetic_right by sql.Int a v g = g ∙ number_right (result_by by) a
arithmetic_right by sql.Numeric a v g = g ∙ number_right (result_by by) a
arithmetic_right by sql.TInt a v g = numbers_right (IsMovingInt (result_by by)) a v g
arithmetic_right Sum sql.TFrac a v g = lines_right (IsMovingFrac (result_by Sum)) a v g
arithmetic_right Difference sql.TFrac a v g = lines_right (IsMovingFrac (result_by Difference)) a v g
arithmetic_right Product sql.TFrac a v g = factors_right (IsMovingFrac (result_by Product)) a v g
arithmetic_right by _ a v g = g

divided_right : (ty : SqlType) (a v : Value) → IsDivided ty a Null v → v ≡ Null
divided_right sql.Numeric a v g = g ∙ quotient_right a
divided_right sql.TFrac a v g = dividend_right a v g
divided_right _ a v g = g

joined_right : (ty : SqlType) (a v : Value) → IsJoined ty a Null v → v ≡ Null
joined_right sql.Text a v g = g ∙ join_right a
joined_right sql.TText a v g = texts_right (IsMovingText text_of) a v g
joined_right _ a v g = g

test_right : (c : Cmp) (a v : Value) → IsTest c a Null v → v ≡ Null
test_right cmp.Eq a v g = beside_null cmp.Eq true a v g
test_right cmp.Ne a v g = beside_null cmp.Ne false a v g
test_right cmp.Lt a v g = g ∙ order_right cmp.Lt (rel_of cmp.Lt) a
test_right cmp.Le a v g = g ∙ order_right cmp.Le (rel_of cmp.Le) a
test_right cmp.Gt a v g = g ∙ order_right cmp.Gt (rel_of cmp.Gt) a
test_right cmp.Ge a v g = g ∙ order_right cmp.Ge (rel_of cmp.Ge) a

order_sign_right : (scope : Asking) (r : Rel) (met : Option SqlType) (a v : Value) → IsOrderTest scope r met a Null v → v ≡ Null
order_sign_right scope r None a v g = g
order_sign_right scope r (Some sql.TInt) a v g = numbers_right (IsAsked scope (number_relates r)) a v g
order_sign_right scope r (Some sql.TFrac) a v g = lines_right (IsAsked scope (number_relates r)) a v g
order_sign_right scope r (Some sql.TText) a v g = texts_right (IsAsked scope (text_relates r)) a v g
order_sign_right scope r (Some _) a v g = g

any_sign_right : (scope : Asking) (r : Rel) (met : Option SqlType) (a v : Value) → IsAnyTest scope r met a Null v → v ≡ Null
any_sign_right scope r None a v g = g
any_sign_right scope r (Some sql.TBool) a v g = truths_right (IsAsked scope (truth_relates r)) a v g
any_sign_right scope r (Some sql.TPoint) a v g = points_right (IsAsked scope (point_relates r)) a v g
any_sign_right scope r (Some sql.TInt) a v g = order_sign_right scope r (Some sql.TInt) a v g
any_sign_right scope r (Some sql.TFrac) a v g = order_sign_right scope r (Some sql.TFrac) a v g
any_sign_right scope r (Some sql.TText) a v g = order_sign_right scope r (Some sql.TText) a v g
any_sign_right scope r (Some _) a v g = g

sign_right : (scope : Asking) (c : Cmp) (met : Option SqlType) (a v : Value) → IsSignTest scope c met a Null v → v ≡ Null
sign_right scope cmp.Eq met a v g = any_sign_right scope (rel_of cmp.Eq) met a v g
sign_right scope cmp.Ne met a v g = any_sign_right scope (rel_of cmp.Ne) met a v g
sign_right scope cmp.Lt met a v g = order_sign_right scope (rel_of cmp.Lt) met a v g
sign_right scope cmp.Le met a v g = order_sign_right scope (rel_of cmp.Le) met a v g
sign_right scope cmp.Gt met a v g = order_sign_right scope (rel_of cmp.Gt) met a v g
sign_right scope cmp.Ge met a v g = order_sign_right scope (rel_of cmp.Ge) met a v g

second_of_two : (o : Op) (ty : SqlType) (ts : List SqlType) (a v : Value) → knows_null o ≡ false → GivesOfTwo o ty ts a Null v → v ≡ Null
second_of_two op.And ty ts a v n g = absurd (true≢false n)
second_of_two op.Or ty ts a v n g = absurd (true≢false n)
second_of_two (op.Test c) ty ts a v n g = test_right c a v g
second_of_two op.Add ty ts a v n g = arithmetic_right Sum ty a v g
second_of_two op.Subtract ty ts a v n g = arithmetic_right Difference ty a v g
second_of_two op.Multiply ty ts a v n g = arithmetic_right Product ty a v g
second_of_two op.Divide ty ts a v n g = divided_right ty a v g
second_of_two op.Join ty ts a v n g = joined_right ty a v g
second_of_two op.LiftedAnd ty ts a v n g = truths_right (IsMovingBool both_hold) a v g
second_of_two op.LiftedOr ty ts a v n g = truths_right (IsMovingBool one_holds) a v g
second_of_two (op.Lifted c) ty ts a v n g = sign_right Each c (meeting ts) a v g
second_of_two (op.Ever c) ty ts a v n g = sign_right Ever c (meeting ts) a v g
second_of_two (op.Always c) ty ts a v n g = sign_right Always c (meeting ts) a v g
second_of_two op.AtValues ty ts a v n g = value_right true a v g
second_of_two op.MinusValues ty ts a v n g = value_right false a v g
second_of_two op.Overlap ty ts a v n g = overlap_right a v g
second_of_two op.ExpandSpace ty ts a v n g = expansion_right a v g
second_of_two op.AtStbox ty ts a v n g = box_right true a v g
second_of_two op.MinusStbox ty ts a v n g = box_right false a v g
second_of_two op.AtGeometry ty ts a v n g = polygon_right true a v g
second_of_two op.MinusGeometry ty ts a v n g = polygon_right false a v g
second_of_two op.EIntersects ty ts a v n g = intersecting_right a v g
second_of_two op.NearestApproachSquared ty ts a v n g = points_right IsApproachValue a v g
second_of_two _ ty ts a v n g = g

-- ---- three operands

within_first : (b c v : Value) → IsEverWithin Null b c v → v ≡ Null
within_first b (Number d) v g = g
within_first b _ v g = g

within_second : (a c v : Value) → IsEverWithin a Null c v → v ≡ Null
within_second a (Number d) v g = points_right (IsAsked Ever (are_within d)) a v g
within_second a _ v g = g

first_of_three : (o : Op) (b c v : Value) → GivesOfThree o Null b c v → v ≡ Null
first_of_three op.EDwithin b c v g = within_first b c v g
first_of_three _ b c v g = g

second_of_three : (o : Op) (a c v : Value) → GivesOfThree o a Null c v → v ≡ Null
second_of_three op.EDwithin a c v g = within_second a c v g
second_of_three _ a c v g = g

third_of_three : (o : Op) (a b v : Value) → GivesOfThree o a b Null v → v ≡ Null
third_of_three op.EDwithin a b v g = g
third_of_three _ a b v g = g

-- ---- all of them

is_first : (a : Value) (vs : List Value) → HaveNull (a ∷ vs) → (a ≡ Null) ⊎ HaveNull vs
is_first Null vs h = inl refl
is_first (Truth x) vs h = inr h
is_first _ vs h = inr h

pub null_gives_null : NullGivesNull
null_gives_null s o ty ts [] v n h g = absurd (true≢false (sym h))
null_gives_null s o ty ts (a ∷ []) v n h g = by (is_first a [] h)
  where
    by : (a ≡ Null) ⊎ HaveNull [] → v ≡ Null
    by (inl e) = of_null s o ty ts v n (subst (λ a. GivesOfOne s o ty ts a v) e g)
    by (inr k) = absurd (true≢false (sym k))
null_gives_null s o ty ts (a ∷ b ∷ []) v n h g = by (is_first a (b ∷ []) h)
  where
    second : (b ≡ Null) ⊎ HaveNull [] → v ≡ Null
    second (inl e) = second_of_two o ty ts a v n (subst (λ b. GivesOfTwo o ty ts a b v) e g)
    second (inr k) = absurd (true≢false (sym k))

    by : (a ≡ Null) ⊎ HaveNull (b ∷ []) → v ≡ Null
    by (inl e) = first_of_two o ty ts b v n (subst (λ a. GivesOfTwo o ty ts a b v) e g)
    by (inr k) = second (is_first b [] k)
null_gives_null s o ty ts (a ∷ b ∷ c ∷ []) v n h g = by (is_first a (b ∷ c ∷ []) h)
  where
    third : (c ≡ Null) ⊎ HaveNull [] → v ≡ Null
    third (inl e) = third_of_three o a b v (subst (λ c. GivesOfThree o a b c v) e g)
    third (inr k) = absurd (true≢false (sym k))

    second : (b ≡ Null) ⊎ HaveNull (c ∷ []) → v ≡ Null
    second (inl e) = second_of_three o a c v (subst (λ b. GivesOfThree o a b c v) e g)
    second (inr k) = third (is_first c [] k)

    by : (a ≡ Null) ⊎ HaveNull (b ∷ c ∷ []) → v ≡ Null
    by (inl e) = first_of_three o b c v (subst (λ a. GivesOfThree o a b c v) e g)
    by (inr k) = second (is_first b (c ∷ []) k)
null_gives_null s o ty ts (a ∷ b ∷ c ∷ d ∷ rest) v n h g = g
