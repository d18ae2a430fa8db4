-- A value of a type is NULL or has the form of the type; the same for two values.
use Rattle.std.{specs.Prelude.{MatchOption}, specs.List.{AllByRecursion}, proofs.Common.{◌≡◌, ◌≢◌, ℕ, Bool, true, true≢false, List, [], ◌∷◌, Option, Some, None, refl, sym, subst}}
use Rattle.mob_ratio.specs.Ratio.{Ratio}
use Rattle.mob_plane.specs.declared.point.Point.{Point as PointOf}
use Rattle.mob_slice.{specs.CourseOf.{CourseOf}, specs.declared.line.Line.{Line}, specs.declared.line.PlaneLine.{PlaneLine}, specs.declared.slice.Slice.{Slice}}
use Rattle.mob_span.specs.Span.{SpanOf}
use Rattle.mob_stbox.specs.Boxes.{BoxOf}
use Rattle.mob_written.specs.Values.{is_whole_number}
use Rattle.mob_ast.specs.declared.types.SqlType.{SqlType}
use Rattle.mob_operators.specs.declared.operator.Op.{Op}
use Rattle.mob_value.{specs.Types.{is_of_type}, specs.declared.value.Value.{Value}}
use Rattle.mob_value.specs.declared.value.Value.TheVariants.{Null, Bool as Truth, Number, Text, Moment, Point, Polygon, Span, SpanSet, Box, MovingBool, MovingInt, MovingFrac, MovingText, MovingPoint}
use Rattle.mob_value.specs.Moving.{SteadySlices, AreNormalBy, IsFunctionOrNull, or_nothing}
use Rattle.mob_meaning.{specs.Scene.{Scene}, specs.Operators.{GivesOfOne, GivesOfTwo, GivesOfThree}}
use Rattle.mob_catalog.specs.OwnTypes.{AreWhole, IsValueOf}
use Rattle.mob_operands.specs.Rows.{HaveNull, NullIsDue, IsAnswer, DividesByOther, HasMeaning}
use Rattle.mob_ast.specs.declared.types.SqlType.TheVariants as sql

-- each value of a tint is whole
abbrev pub AreInts : SteadySlices Ratio → Type 0
AreInts slices = AllByRecursion (λ s. is_whole_number s.course.value ≡ true) slices

-- P holds of each value that has the form of a type
abbrev pub OnForms : SqlType → (Value → Type 0) → Type 0
OnForms sql.Bool P = (b : Bool) → P (Truth b)
OnForms sql.Int P = (n : Ratio) → is_whole_number n ≡ true → P (Number n)
OnForms sql.Numeric P = (n : Ratio) → P (Number n)
OnForms sql.Text P = (x : List ℕ) → P (Text x)
OnForms sql.Moment P = (t : Ratio) → P (Moment t)
OnForms sql.Point P = (p : PointOf) → P (Point p)
OnForms sql.Polygon P = (rings : List (List PointOf)) → P (Polygon rings)
OnForms sql.Span P = (s : SpanOf) → P (Span s)
OnForms sql.SpanSet P = (spans : List SpanOf) → P (SpanSet spans)
OnForms sql.Box P = (b : BoxOf) → P (Box b)
OnForms sql.TBool P = (m : SteadySlices Bool) → P (MovingBool m)
OnForms sql.TInt P = (m : SteadySlices Ratio) → AreInts m → P (MovingInt m)
OnForms sql.TFrac P = (m : List (Slice Line)) → P (MovingFrac m)
OnForms sql.TText P = (m : SteadySlices (List ℕ)) → P (MovingText m)
OnForms sql.TPoint P = (m : List (Slice PlaneLine)) → P (MovingPoint m)

-- so it holds for each value of the type if it holds for NULL
pub by_type : (t : SqlType) (P : Value → Type 0) → P Null → OnForms t P → (a : Value) → IsValueOf t a → P a
by_type t P n f Null h = n
by_type sql.Bool P n f (Truth b) h = f b
by_type sql.Int P n f (Number x) h = f x h.whole
by_type sql.Numeric P n f (Number x) h = f x
by_type sql.Text P n f (Text x) h = f x
by_type sql.Moment P n f (Moment x) h = f x
by_type sql.Point P n f (Point x) h = f x
by_type sql.Polygon P n f (Polygon x) h = f x
by_type sql.Span P n f (Span x) h = f x
by_type sql.SpanSet P n f (SpanSet x) h = f x
by_type sql.Box P n f (Box x) h = f x
by_type sql.TBool P n f (MovingBool x) h = f x
by_type sql.TInt P n f (MovingInt x) h = f x h.whole
by_type sql.TFrac P n f (MovingFrac x) h = f x
by_type sql.TText P n f (MovingText x) h = f x
by_type sql.TPoint P n f (MovingPoint x) h = f x
by_type _ P n f _ h = absurd (true≢false (sym h.form))

map_forms : (t : SqlType) (P Q : Value → Type 0) → ((a : Value) → P a → Q a) → OnForms t P → OnForms t Q
map_forms sql.Bool P Q g f = λ x. g (Truth x) (f x)
map_forms sql.Int P Q g f = λ x w. g (Number x) (f x w)
map_forms sql.Numeric P Q g f = λ x. g (Number x) (f x)
map_forms sql.Text P Q g f = λ x. g (Text x) (f x)
map_forms sql.Moment P Q g f = λ x. g (Moment x) (f x)
map_forms sql.Point P Q g f = λ x. g (Point x) (f x)
map_forms sql.Polygon P Q g f = λ x. g (Polygon x) (f x)
map_forms sql.Span P Q g f = λ x. g (Span x) (f x)
map_forms sql.SpanSet P Q g f = λ x. g (SpanSet x) (f x)
map_forms sql.Box P Q g f = λ x. g (Box x) (f x)
map_forms sql.TBool P Q g f = λ x. g (MovingBool x) (f x)
map_forms sql.TInt P Q g f = λ x w. g (MovingInt x) (f x w)
map_forms sql.TFrac P Q g f = λ x. g (MovingFrac x) (f x)
map_forms sql.TText P Q g f = λ x. g (MovingText x) (f x)
map_forms sql.TPoint P Q g f = λ x. g (MovingPoint x) (f x)

-- and for each two values of two types
pub by_types : (t u : SqlType) (P : Value → Value → Type 0) → ((b : Value) → P Null b) → ((a : Value) → P a Null) → OnForms t (λ a. OnForms u (P a)) → (a b : Value) → IsValueOf t a → IsValueOf u b → P a b
by_types t u P n m f a b h k = by_type t (λ a. P a b) (n b) (map_forms t (λ a. OnForms u (P a)) (λ a. P a b) (λ a g. by_type u (P a) (m a) g b k) f) a h

-- ---- answers

-- NULL, if it is due
pub null_answer : (o : Op) (ty : SqlType) (vs : List Value) (v : Value) → NullIsDue o ty vs → v ≡ Null → IsAnswer o ty vs v
null_answer o ty vs v d e = subst (IsAnswer o ty vs) (sym e) (record { own = record { form = refl; whole = tt }; null = λ k. d })

-- a value of the type that is not NULL
pub made_answer : (o : Op) (ty : SqlType) (vs : List Value) (v w : Value) → is_of_type ty w ≡ true → AreWhole ty w → w ≢ Null → v ≡ w → IsAnswer o ty vs v
made_answer o ty vs v w form whole n e = subst (IsAnswer o ty vs) (sym e) (record { own = record { form = form; whole = whole }; null = λ k. absurd (n k) })

pub own_answer : (o : Op) (ty : SqlType) (vs : List Value) (v w : Value) → IsValueOf ty w → w ≢ Null → v ≡ w → IsAnswer o ty vs v
own_answer o ty vs v w own n e = made_answer o ty vs v w own.form own.whole n e

-- the one normal value that satisfies a condition, or NULL if there is none
pub function_answer : {C B : Type 0} (course : CourseOf C B) (make : List (Slice C) → Value) (P : Option (List (Slice C)) → Type 0) (o : Op) (ty : SqlType) (vs : List Value) (v : Value) → ((r : List (Slice C)) → P (Some r) → AreNormalBy course r → IsValueOf ty (make r)) → ((r : List (Slice C)) → make r ≢ Null) → (P None → NullIsDue o ty vs) → IsFunctionOrNull course make P v → IsAnswer o ty vs v
function_answer {C} course make P o ty vs v own some due g = by g.0 g.1 g.2 g.3
  where
    by : (r : Option (List (Slice C))) → P r → MatchOption r (Unit {0}) (AreNormalBy course) → v ≡ or_nothing make r → IsAnswer o ty vs v
    by None p n e = null_answer o ty vs v (due p) e
    by (Some r) p n e = own_answer o ty vs v (make r) (own r p n) (some r) e

pub truth_answer : (o : Op) (vs : List Value) (v : Value) (b : Bool) → v ≡ Truth b → IsAnswer o sql.Bool vs v
truth_answer o vs v b e = made_answer o sql.Bool vs v (Truth b) refl tt (λ k. absurd (cc k)) e

-- one of two operands is NULL
pub first_null : (b : Value) → HaveNull (Null ∷ b ∷ [])
first_null b = refl

pub second_null : (a : Value) → HaveNull (a ∷ Null ∷ [])
second_null Null = refl
second_null (Truth x) = refl
second_null _ = refl

-- ---- as many operands as types

pub of_one : (o : Op) (ty t : SqlType) → ((s : Scene) (a v : Value) → IsValueOf t a → GivesOfOne s o ty (t ∷ []) a v → IsAnswer o ty (a ∷ []) v) → HasMeaning o ty (t ∷ [])
of_one o ty t f s [] v h d g = absurd h
of_one o ty t f s (a ∷ []) v h d g = f s a v h.0 g
of_one o ty t f s (a ∷ b ∷ rest) v h d g = absurd h.1

pub of_two : (o : Op) (ty t u : SqlType) → ((a b v : Value) → IsValueOf t a → IsValueOf u b → DividesByOther o (a ∷ b ∷ []) → GivesOfTwo o ty (t ∷ u ∷ []) a b v → IsAnswer o ty (a ∷ b ∷ []) v) → HasMeaning o ty (t ∷ u ∷ [])
of_two o ty t u f s [] v h d g = absurd h
of_two o ty t u f s (a ∷ []) v h d g = absurd h.1
of_two o ty t u f s (a ∷ b ∷ []) v h d g = f a b v h.0 h.1.0 d g
of_two o ty t u f s (a ∷ b ∷ c ∷ rest) v h d g = absurd h.1.1

pub of_three : (o : Op) (ty t u w : SqlType) → ((a b c v : Value) → IsValueOf t a → IsValueOf u b → IsValueOf w c → GivesOfThree o a b c v → IsAnswer o ty (a ∷ b ∷ c ∷ []) v) → HasMeaning o ty (t ∷ u ∷ w ∷ [])
of_three o ty t u w f s [] v h d g = absurd h
of_three o ty t u w f s (a ∷ []) v h d g = absurd h.1
of_three o ty t u w f s (a ∷ b ∷ []) v h d g = absurd h.1.1
of_three o ty t u w f s (a ∷ b ∷ c ∷ []) v h d g = f a b c v h.0 h.1.0 h.1.1.0 g
of_three o ty t u w f s (a ∷ b ∷ c ∷ e ∷ rest) v h d g = absurd h.1.1.1
