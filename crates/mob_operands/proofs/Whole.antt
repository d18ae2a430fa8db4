-- Sums, differences, products and opposites of whole numbers are whole, and so are the values of
-- tints made from tints.
use Rattle.std.{specs.Prelude.{nat_eq, cond}, proofs.Common.{◌≡◌, ◌∙◌, ℕ, ℤ, ◌+ℤ◌, ◌*ℤ◌, neg_ℤ, nat_abs, Bool, true, false, [], ◌∷◌, Option, Some, None, refl, sym, ap, subst, arith}}
use Rattle.std.{proofs.lemmas.Bool.{eqb-true}, proofs.lemmas.Option.{same_Some}}
use Rattle.mob_ratio.{specs.GcdLaws.{gcd_one_right}, specs.LowestLaws.{lowest_in}, specs.Order.{same}, specs.Ratio.{Ratio, whole, over, ◌+ℚ◌, ◌*ℚ◌, neg_ℚ}, proofs.Clear.{whole-over}}
use Rattle.mob_ratio.{proofs.RatioLemmas.{over-lowest, over-self}, proofs.Rings.{whole-neg, whole-add, whole-mul}}
use Rattle.mob_list.proofs.Entries.{all_by_each, each_of_all}
use Rattle.mob_span.{specs.Span.{has}, proofs.SpanLemmas.{some_instant}}
use Rattle.mob_slice.{specs.CourseOf.{steady_course}, specs.Operands.{steady_value, steady_limit, map_both}, specs.Slices.{IsSound, IsRisingInTime}, proofs.LookUps.{found_value}}
use Rattle.mob_slice.{proofs.OneAt.{one_slice_at}, proofs.Orders.{ordered, all_sound}}
use Rattle.mob_written.specs.Values.{is_whole_number}
use Rattle.mob_value.{specs.declared.value.Value.TheVariants.{MovingInt}, specs.Moving.{SteadySlices, OverTime, step_function, AreNormalBy}}
use Rattle.mob_arith.{specs.declared.sql.calculation.Calculation.{Calculation}, specs.declared.sql.calculation.Calculation.TheVariants.{Sum, Difference, Product}, specs.Sql.Calculations.{result_by}}
use Rattle.mob_catalog.specs.OwnTypes.{IsValueOf}
use Rattle.mob_operands.proofs.Forms.{AreInts}
use Rattle.mob_ast.specs.declared.types.SqlType.TheVariants as sql

abbrev IsInt : Ratio → Type 0
IsInt q = is_whole_number q ≡ true

of_whole : (n : ℤ) → IsInt (whole n)
of_whole n =
    let d : (over n 1).den ≡ 1 = (over-lowest n 1 (lowest_in n 1 (omega arith) (gcd_one_right (nat_abs n)))).1 in
    ap (λ (k : ℕ). nat_eq k 1) (ap (λ q. q.den) (whole-over n) ∙ d)

as_whole : (q : Ratio) → IsInt q → q ≡ whole q.num
as_whole q h =
    let d : q.den ≡ 1 = eqb-true q.den 1 h in
    sym (over-self q) ∙ ap (over q.num) d ∙ sym (whole-over q.num)

is_of : (q : Ratio) (n : ℤ) → q ≡ whole n → IsInt q
is_of q n e = subst IsInt (sym e) (of_whole n)

pub int_sum : (a b : Ratio) → IsInt a → IsInt b → IsInt (a +ℚ b)
int_sum a b h k = is_of (a +ℚ b) (a.num +ℤ b.num) (ap (λ x. x +ℚ b) (as_whole a h) ∙ ap (λ y. whole a.num +ℚ y) (as_whole b k) ∙ sym (whole-add a.num b.num))

pub int_neg : (a : Ratio) → IsInt a → IsInt (neg_ℚ a)
int_neg a h = is_of (neg_ℚ a) (neg_ℤ a.num) (ap neg_ℚ (as_whole a h) ∙ sym (whole-neg a.num))

pub int_product : (a b : Ratio) → IsInt a → IsInt b → IsInt (a *ℚ b)
int_product a b h k = is_of (a *ℚ b) (a.num *ℤ b.num) (ap (λ x. x *ℚ b) (as_whole a h) ∙ ap (λ y. whole a.num *ℚ y) (as_whole b k) ∙ sym (whole-mul a.num b.num))

-- the same for each of the three operations
pub int_by : (by : Calculation) (a b : Ratio) → IsInt a → IsInt b → IsInt (result_by by a b)
int_by Sum a b h k = int_sum a b h k
int_by Difference a b h k = int_sum a (neg_ℚ b) h (int_neg b k)
int_by Product a b h k = int_product a b h k

-- ---- over time

-- each value of a function of time is whole
abbrev pub HasInts : OverTime Ratio → Type 0
HasInts f = (t x : Ratio) → f t ≡ Some x → IsInt x

-- a tint has whole numbers at all instants
pub ints_there : (m : SteadySlices Ratio) → AreInts m → HasInts (step_function m)
ints_there [] h t x e = absurd (cc e)
ints_there (s ∷ m) h t x e = by (has s.span t) e (ints_there m h.1 t x)
  where
    by : (b : Bool) → cond b (Some s.course.value) (step_function m t) ≡ Some x → (step_function m t ≡ Some x → IsInt x) → IsInt x
    by true e rest = subst IsInt (same_Some s.course.value x e) h.0
    by false e rest = rest e

pub ints_of_one : (n : Ratio) → IsInt n → HasInts (λ t. Some n)
ints_of_one n h t x e = subst IsInt (same_Some n x e) h

-- ordered slices with whole numbers at all instants are those of a tint, since each slice has an
-- instant
ints_of : (m : SteadySlices Ratio) → IsRisingInTime steady_limit steady_limit m → HasInts (step_function m) → AreInts m
ints_of m o h = all_by_each (λ s. IsInt s.course.value) m (λ s c.
    let i = some_instant s.span (each_of_all (IsSound steady_limit steady_limit) m (all_sound steady_limit steady_limit m o) s c).some in
    h i.0 s.course.value (found_value steady_value i.0 m s ((one_slice_at steady_limit steady_limit m o i.0 s).1 (c, i.1))))

pub tint_of : (m : SteadySlices Ratio) → AreNormalBy (steady_course same) m → HasInts (step_function m) → IsValueOf sql.TInt (MovingInt m)
tint_of m n h = record { form = refl; whole = ints_of m (ordered steady_limit steady_limit _ m n.chained) h }

-- the result of an operation on two whole numbers that may be missing
pub int_both : (by : Calculation) (x y : Option Ratio) → ((a : Ratio) → x ≡ Some a → IsInt a) → ((b : Ratio) → y ≡ Some b → IsInt b) → (n : Ratio) → map_both (result_by by) x y ≡ Some n → IsInt n
int_both by None y h k n e = absurd (cc e)
int_both by (Some a) None h k n e = absurd (cc e)
int_both by (Some a) (Some b) h k n e = subst IsInt (same_Some (result_by by a b) n e) (int_by by a b (h a refl) (k b refl))
