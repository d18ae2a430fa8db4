-- The other operators that take one operand, and those on boxes and polygons.
use Rattle.std.proofs.Common.{◌≡◌, ◌∙◌, Bool, true, false, true≢false, List, [], ◌∷◌, Some, inl, inr, refl, sym, ap}
use Rattle.mob_ratio.specs.Ratio.{Ratio}
use Rattle.mob_plane.specs.declared.point.Point.{Point as PointOf}
use Rattle.mob_span.specs.Span.{SpanOf}
use Rattle.mob_compare.{specs.Times.{is_true}, specs.Sql.TrueTimes.{IsTrueTime, set_or_null}}
use Rattle.mob_ast.specs.declared.types.SqlType.{SqlType}
use Rattle.mob_operators.{specs.Lookup.{is_temporal}, specs.declared.operator.Op.{Op}}
use Rattle.mob_value.{specs.declared.value.Value.{Value}, specs.declared.value.Value.TheVariants.{Null, SpanSet, Box, MovingBool, MovingFrac, MovingPoint}, specs.Moving.{SteadySlices, step_function}}
use Rattle.mob_value.specs.Sets.{AreInstantsOf}
use Rattle.mob_clip.{specs.Sql.Boxes.{IsOverlap}, specs.Sql.Polygons.{IsIntersecting}}
use Rattle.mob_restrict.{specs.Sql.Coordinates.{IsCoordinate}, specs.Sql.Times.{IsDefinedTime}}
use Rattle.mob_arith.specs.Sql.Lifting.{IsLiftedNot}
use Rattle.mob_catalog.specs.OwnTypes.{IsValueOf}
use Rattle.mob_operands.{specs.Rows.{NullIsDue, IsAnswer}, proofs.Forms.{OnForms, by_type, by_types, null_answer, made_answer, truth_answer, first_null, second_null}, proofs.Plain.{AnswersOne}}
use Rattle.mob_ast.specs.declared.types.SqlType.TheVariants as sql
use Rattle.mob_operators.specs.declared.operator.Op.TheVariants as op

pub not_each_answers : (a : Value) → IsValueOf sql.TBool a → AnswersOne op.LiftedNot sql.TBool IsLiftedNot a
not_each_answers a h = by_type sql.TBool (AnswersOne op.LiftedNot sql.TBool IsLiftedNot)
    (λ v e. null_answer op.LiftedNot sql.TBool (Null ∷ []) v refl e) (λ m v g. made_answer op.LiftedNot sql.TBool _ v (MovingBool g.0) refl tt (λ n. absurd (cc n)) g.3) a h

pub coordinate_answers : (o : Op) (coordinate : PointOf → Ratio) → NullIsDue o sql.TFrac (Null ∷ []) → (a : Value) → IsValueOf sql.TPoint a → AnswersOne o sql.TFrac (IsCoordinate coordinate) a
coordinate_answers o coordinate due a h = by_type sql.TPoint (AnswersOne o sql.TFrac (IsCoordinate coordinate))
    (λ v e. null_answer o sql.TFrac (Null ∷ []) v due e) (λ m v g. made_answer o sql.TFrac _ v (MovingFrac g.0) refl tt (λ n. absurd (cc n)) g.3) a h

set_made : (a v : Value) (spans : List SpanOf) → v ≡ SpanSet spans → IsAnswer op.GetTime sql.SpanSet (a ∷ []) v
set_made a v spans e = made_answer op.GetTime sql.SpanSet (a ∷ []) v (SpanSet spans) refl tt (λ n. absurd (cc n)) e

by_time : (t : SqlType) → OnForms t (AnswersOne op.GetTime sql.SpanSet IsDefinedTime) → (a : Value) → IsValueOf t a → AnswersOne op.GetTime sql.SpanSet IsDefinedTime a
by_time t f a h = by_type t (AnswersOne op.GetTime sql.SpanSet IsDefinedTime) (λ v e. null_answer op.GetTime sql.SpanSet (Null ∷ []) v refl e) f a h

pub time_answers : (t : SqlType) → is_temporal t ≡ true → (a : Value) → IsValueOf t a → AnswersOne op.GetTime sql.SpanSet IsDefinedTime a
time_answers sql.TBool e = by_time sql.TBool (λ m v g. set_made _ v _ g.2)
time_answers sql.TInt e = by_time sql.TInt (λ m i v g. set_made _ v _ g.2)
time_answers sql.TFrac e = by_time sql.TFrac (λ m v g. set_made _ v _ g.2)
time_answers sql.TText e = by_time sql.TText (λ m v g. set_made _ v _ g.2)
time_answers sql.TPoint e = by_time sql.TPoint (λ m v g. set_made _ v _ g.2)
time_answers _ e = absurd (true≢false (sym e))

-- no instant is true if the set of these instants is empty
never_true : (m : SteadySlices Bool) → AreInstantsOf (λ t. is_true (step_function m t)) [] → (t : Ratio) → step_function m t ≡ Some true → ⊥
never_true m h t e = true≢false (sym (h.1 t ∙ ap is_true e))

true_made : (m : SteadySlices Bool) (v : Value) (spans : List SpanOf) → AreInstantsOf (λ t. is_true (step_function m t)) spans → v ≡ set_or_null spans → IsAnswer op.WhenTrue sql.SpanSet (MovingBool m ∷ []) v
true_made m v [] h e = null_answer op.WhenTrue sql.SpanSet (MovingBool m ∷ []) v (inr (never_true m h)) e
true_made m v (s ∷ spans) h e = made_answer op.WhenTrue sql.SpanSet (MovingBool m ∷ []) v (SpanSet (s ∷ spans)) refl tt (λ n. absurd (cc n)) e

pub true_time_answers : (a : Value) → IsValueOf sql.TBool a → AnswersOne op.WhenTrue sql.SpanSet IsTrueTime a
true_time_answers a h = by_type sql.TBool (AnswersOne op.WhenTrue sql.SpanSet IsTrueTime)
    (λ v e. null_answer op.WhenTrue sql.SpanSet (Null ∷ []) v (inl refl) e) (λ m v g. true_made m v g.0 g.1 g.2) a h

abbrev Overlaps : Value → Value → Type 0
Overlaps a b = (v : Value) → IsOverlap a b v → IsAnswer op.Overlap sql.Bool (a ∷ b ∷ []) v

pub overlap_right : (a v : Value) → IsOverlap a Null v → v ≡ Null
overlap_right (Box b) v g = g
overlap_right (MovingPoint m) v g = g.2
overlap_right _ v g = g

by_boxes : (t u : SqlType) → OnForms t (λ a. OnForms u (Overlaps a)) → (a b : Value) → IsValueOf t a → IsValueOf u b → Overlaps a b
by_boxes t u f a b h k = by_types t u Overlaps
    (λ b v g. null_answer op.Overlap sql.Bool (Null ∷ b ∷ []) v (first_null b) g)
    (λ a v g. null_answer op.Overlap sql.Bool (a ∷ Null ∷ []) v (second_null a) (overlap_right a v g)) f a b h k

abbrev pub are_boxed : SqlType → SqlType → Bool
are_boxed sql.Box sql.Box = true
are_boxed sql.Box sql.TPoint = true
are_boxed sql.TPoint sql.Box = true
are_boxed sql.TPoint sql.TPoint = true
are_boxed _ _ = false

pub overlap_answers : (t u : SqlType) → are_boxed t u ≡ true → (a b : Value) → IsValueOf t a → IsValueOf u b → Overlaps a b
overlap_answers sql.Box sql.Box e = by_boxes sql.Box sql.Box (λ x y v g. truth_answer op.Overlap _ v _ g.2)
overlap_answers sql.Box sql.TPoint e = by_boxes sql.Box sql.TPoint (λ x y v g. truth_answer op.Overlap _ v _ g.2.2)
overlap_answers sql.TPoint sql.Box e = by_boxes sql.TPoint sql.Box (λ x y v g. truth_answer op.Overlap _ v _ g.2.2)
overlap_answers sql.TPoint sql.TPoint e = by_boxes sql.TPoint sql.TPoint (λ x y v g. truth_answer op.Overlap _ v _ g.2.2.2)
overlap_answers _ _ e = absurd (true≢false (sym e))

abbrev Intersects : Value → Value → Type 0
Intersects a b = (v : Value) → IsIntersecting a b v → IsAnswer op.EIntersects sql.Bool (a ∷ b ∷ []) v

pub intersecting_right : (a v : Value) → IsIntersecting a Null v → v ≡ Null
intersecting_right (MovingPoint m) v g = g
intersecting_right _ v g = g

pub intersecting_answers : (a b : Value) → IsValueOf sql.TPoint a → IsValueOf sql.Polygon b → Intersects a b
intersecting_answers a b h k = by_types sql.TPoint sql.Polygon Intersects
    (λ b v g. null_answer op.EIntersects sql.Bool (Null ∷ b ∷ []) v (first_null b) g)
    (λ a v g. null_answer op.EIntersects sql.Bool (a ∷ Null ∷ []) v (second_null a) (intersecting_right a v g))
    (λ x y v g. truth_answer op.EIntersects _ v _ g.2) a b h k
