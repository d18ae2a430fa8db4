-- The restriction of a temporal value has its type, and is NULL only if nothing is left.
use Rattle.std.{specs.Prelude.{◌⊎◌, cond, is_some}, proofs.Common.{◌≡◌, ◌≢◌, ◌∙◌, ℕ, Bool, true, false, true≢false, List, [], ◌∷◌, Option, Some, None, inl, inr, refl, sym, subst}}
use Rattle.mob_ratio.{specs.Ratio.{Ratio}, specs.Order.{same}}
use Rattle.mob_span.{specs.Sets.{in_some}, specs.Span.{SpanOf}, specs.Flags.{same_bool}}
use Rattle.mob_plane.{specs.declared.point.Point.{Point as PointOf}, specs.Membership.{inside}}
use Rattle.mob_stbox.specs.Boxes.{in_box}
use Rattle.mob_slice.{specs.CourseOf.{steady_course, line_course, plane_course}, specs.LineComparison.{point_relates, number_relates}, specs.Lines.{line_value_of, plane_value_of}}
use Rattle.mob_slice.{specs.Operands.{steady_value}, specs.Sameness.{same_bytes}, specs.declared.comparison.Rel.TheVariants.{Eq}, specs.declared.line.Line.{Line}}
use Rattle.mob_slice.{specs.declared.line.PlaneLine.{PlaneLine}, specs.declared.slice.Slice.{Slice}}
use Rattle.mob_cells.{specs.Cells.{instant_span}, specs.Restricted.{where_wanted, IsRestricted}}
use Rattle.mob_ast.specs.declared.types.SqlType.{SqlType}
use Rattle.mob_operators.{specs.Lookup.{is_temporal}, specs.declared.operator.Op.{Op}}
use Rattle.mob_value.specs.declared.value.Value.{Value}
use Rattle.mob_value.specs.declared.value.Value.TheVariants.{Null, Bool as Truth, Number, Text, Moment, Point, Span, SpanSet, MovingBool, MovingInt, MovingFrac, MovingText, MovingPoint}
use Rattle.mob_value.{specs.Moving.{SteadySlices, step_function, line_function, plane_function, or_nothing, IsFunctionOrNull}, specs.Relations.{text_relates, truth_relates}}
use Rattle.mob_clip.{specs.Sql.Boxes.{IsBoxRestriction}, specs.Sql.Polygons.{IsPolygonRestriction}}
use Rattle.mob_restrict.{specs.Sql.ByValue.{IsValueRestriction}, specs.Sql.Times.{IsRestriction, IsTimeRestriction, look_up}}
use Rattle.mob_catalog.specs.OwnTypes.{IsValueOf}
use Rattle.mob_operands.specs.Rows.{is_there, HaveNull, passes, is_asked, is_then, is_within, NothingIsLeft, NullIsDue, IsAnswer}
use Rattle.mob_operands.{proofs.Forms.{OnForms, AreInts, by_type, by_types, null_answer, own_answer, function_answer, first_null, second_null}, proofs.Whole.{ints_there, tint_of}}
use Rattle.mob_ast.specs.declared.types.SqlType.TheVariants as sql
use Rattle.mob_operators.specs.declared.operator.Op.TheVariants as op

gone : {B : Type 0} (x : B) (b : Bool) → cond b (Some x) None ≡ None → b ≡ false
gone x true e = absurd (cc e)
gone x false e = refl

-- if nothing is left of an existing value, it is not wanted
none_left : {B : Type 0} (want : Bool) (test : B → Bool) (o : Option B) → where_wanted want test o ≡ None → is_some o ≡ true → same_bool want (passes test o) ≡ false
none_left want test None e h = absurd (true≢false (sym h))
none_left want test (Some x) e h = gone x (same_bool want (test x)) e

none_then : {B : Type 0} (want c : Bool) (o : Option B) → where_wanted want (λ x. c) o ≡ None → is_some o ≡ true → same_bool want c ≡ false
none_then want c None e h = absurd (true≢false (sym h))
none_then want c (Some x) e h = gone x (same_bool want c) e

-- what is left is the value itself
same_left : {B : Type 0} (want : Bool) (test : B → Bool) (o : Option B) (x : B) → where_wanted want test o ≡ Some x → o ≡ Some x
same_left want test None x e = e
same_left {B} want test (Some y) x e = by (same_bool want (test y)) e
  where
    by : (b : Bool) → cond b (Some y) None ≡ Some x → Some y ≡ Some x
    by true e = e
    by false e = absurd (cc e)

-- ---- with NULL

pub value_right : (want : Bool) (a v : Value) → IsValueRestriction want a Null v → v ≡ Null
value_right want Null v g = g
value_right want (Truth x) v g = g
value_right want _ v g = g

pub box_right : (want : Bool) (a v : Value) → IsBoxRestriction want a Null v → v ≡ Null
box_right want (MovingPoint m) v g = g
box_right want _ v g = g

pub polygon_right : (want : Bool) (a v : Value) → IsPolygonRestriction want a Null v → v ≡ Null
polygon_right want (MovingPoint m) v g = g
polygon_right want _ v g = g

pub look_left : (b : Value) → look_up Null b ≡ Null
look_left (Moment t) = refl
look_left _ = refl

-- ---- the restriction of each temporal type

module _ (o : Op) (want : Bool) where
  left_bools : (meets : Ratio → Bool → Bool) (m : SteadySlices Bool) (vs : List Value) → (((t : Ratio) → where_wanted want (meets t) (step_function m t) ≡ None) → NullIsDue o sql.TBool vs) → (v : Value) → IsFunctionOrNull (steady_course same_bool) MovingBool (IsRestricted steady_value want meets m) v → IsAnswer o sql.TBool vs v
  left_bools meets m vs due v g = function_answer (steady_course same_bool) MovingBool (IsRestricted steady_value want meets m) o sql.TBool vs v (λ r p n. record { form = refl; whole = tt }) (λ r n. absurd (cc n)) due g

  left_ints : (meets : Ratio → Ratio → Bool) (m : SteadySlices Ratio) (vs : List Value) → AreInts m → (((t : Ratio) → where_wanted want (meets t) (step_function m t) ≡ None) → NullIsDue o sql.TInt vs) → (v : Value) → IsFunctionOrNull (steady_course same) MovingInt (IsRestricted steady_value want meets m) v → IsAnswer o sql.TInt vs v
  left_ints meets m vs i due v g = function_answer (steady_course same) MovingInt (IsRestricted steady_value want meets m) o sql.TInt vs v (λ r p n. tint_of r n (λ t x e. ints_there m i t x (same_left want (meets t) (step_function m t) x (sym (p t) ∙ e)))) (λ r n. absurd (cc n)) due g

  left_fracs : (meets : Ratio → Ratio → Bool) (m : List (Slice Line)) (vs : List Value) → (((t : Ratio) → where_wanted want (meets t) (line_function m t) ≡ None) → NullIsDue o sql.TFrac vs) → (v : Value) → IsFunctionOrNull line_course MovingFrac (IsRestricted line_value_of want meets m) v → IsAnswer o sql.TFrac vs v
  left_fracs meets m vs due v g = function_answer line_course MovingFrac (IsRestricted line_value_of want meets m) o sql.TFrac vs v (λ r p n. record { form = refl; whole = tt }) (λ r n. absurd (cc n)) due g

  left_texts : (meets : Ratio → List ℕ → Bool) (m : SteadySlices (List ℕ)) (vs : List Value) → (((t : Ratio) → where_wanted want (meets t) (step_function m t) ≡ None) → NullIsDue o sql.TText vs) → (v : Value) → IsFunctionOrNull (steady_course same_bytes) MovingText (IsRestricted steady_value want meets m) v → IsAnswer o sql.TText vs v
  left_texts meets m vs due v g = function_answer (steady_course same_bytes) MovingText (IsRestricted steady_value want meets m) o sql.TText vs v (λ r p n. record { form = refl; whole = tt }) (λ r n. absurd (cc n)) due g

  left_points : (meets : Ratio → PointOf → Bool) (m : List (Slice PlaneLine)) (vs : List Value) → (((t : Ratio) → where_wanted want (meets t) (plane_function m t) ≡ None) → NullIsDue o sql.TPoint vs) → (v : Value) → IsFunctionOrNull plane_course MovingPoint (IsRestricted plane_value_of want meets m) v → IsAnswer o sql.TPoint vs v
  left_points meets m vs due v g = function_answer plane_course MovingPoint (IsRestricted plane_value_of want meets m) o sql.TPoint vs v (λ r p n. record { form = refl; whole = tt }) (λ r n. absurd (cc n)) due g

-- ---- by time

-- whether a type has instants
abbrev pub is_time : SqlType → Bool
is_time sql.Moment = true
is_time sql.Span = true
is_time sql.SpanSet = true
is_time _ = false

-- a temporal type as the result and the first operand, and a type of times
abbrev pub are_timed : SqlType → SqlType → SqlType → Bool
are_timed sql.TBool sql.TBool u = is_time u
are_timed sql.TInt sql.TInt u = is_time u
are_timed sql.TFrac sql.TFrac u = is_time u
are_timed sql.TText sql.TText u = is_time u
are_timed sql.TPoint sql.TPoint u = is_time u
are_timed _ _ _ = false

module _ (o : Op) (want : Bool) (due : (ty : SqlType) (vs : List Value) → HaveNull vs ⊎ NothingIsLeft want is_asked vs → NullIsDue o ty vs) where
  -- for a time with the instants of these spans
  module _ (b : Value) (spans : List SpanOf) (asks : (a : Value) (t : Ratio) → in_some spans t ≡ is_asked a b t) where
    abbrev Timed : SqlType → Value → Type 0
    Timed ty a = (v : Value) → IsRestriction want spans a v → IsAnswer o ty (a ∷ b ∷ []) v

    none_timed : {B : Type 0} (ty : SqlType) (a : Value) (f : Ratio → Option B) → ((t : Ratio) → is_there t a ≡ true → is_some (f t) ≡ true) → ((t : Ratio) → where_wanted want (λ x. in_some spans t) (f t) ≡ None) → NullIsDue o ty (a ∷ b ∷ [])
    none_timed ty a f there e = due ty (a ∷ b ∷ []) (inr (λ t h. subst (λ c. same_bool want c ≡ false) (asks a t) (none_then want (in_some spans t) (f t) (e t) (there t h))))

    null_timed : (ty : SqlType) → Timed ty Null
    null_timed ty v g = null_answer o ty (Null ∷ b ∷ []) v (due ty (Null ∷ b ∷ []) (inl (first_null b))) g

    timed : (t : SqlType) → is_temporal t ≡ true → (a : Value) → IsValueOf t a → Timed t a
    timed sql.TBool e a h = by_type sql.TBool (Timed sql.TBool) (null_timed sql.TBool) (λ m v g. left_bools o want (λ t x. in_some spans t) m _ (none_timed sql.TBool (MovingBool m) (step_function m) (λ t h. h)) v g) a h
    timed sql.TInt e a h = by_type sql.TInt (Timed sql.TInt) (null_timed sql.TInt) (λ m i v g. left_ints o want (λ t x. in_some spans t) m _ i (none_timed sql.TInt (MovingInt m) (step_function m) (λ t h. h)) v g) a h
    timed sql.TFrac e a h = by_type sql.TFrac (Timed sql.TFrac) (null_timed sql.TFrac) (λ m v g. left_fracs o want (λ t x. in_some spans t) m _ (none_timed sql.TFrac (MovingFrac m) (line_function m) (λ t h. h)) v g) a h
    timed sql.TText e a h = by_type sql.TText (Timed sql.TText) (null_timed sql.TText) (λ m v g. left_texts o want (λ t x. in_some spans t) m _ (none_timed sql.TText (MovingText m) (step_function m) (λ t h. h)) v g) a h
    timed sql.TPoint e a h = by_type sql.TPoint (Timed sql.TPoint) (null_timed sql.TPoint) (λ m v g. left_points o want (λ t x. in_some spans t) m _ (none_timed sql.TPoint (MovingPoint m) (plane_function m) (λ t h. h)) v g) a h
    timed _ e a h = absurd (true≢false (sym e))

  abbrev OnTime : SqlType → Value → Value → Type 0
  OnTime ty a b = (v : Value) → IsTimeRestriction want a b v → IsAnswer o ty (a ∷ b ∷ []) v

  null_time : (ty : SqlType) (a : Value) → OnTime ty a Null
  null_time ty a v g = null_answer o ty (a ∷ Null ∷ []) v (due ty (a ∷ Null ∷ []) (inl (second_null a))) g

  on_time : (t u : SqlType) → is_temporal t ≡ true → is_time u ≡ true → (a b : Value) → IsValueOf t a → IsValueOf u b → OnTime t a b
  on_time t sql.Moment w e a b h k = by_type sql.Moment (OnTime t a) (null_time t a) (λ x v g. timed (Moment x) (instant_span x ∷ []) (λ a t. refl) t w a h v g) b k
  on_time t sql.Span w e a b h k = by_type sql.Span (OnTime t a) (null_time t a) (λ x v g. timed (Span x) (x ∷ []) (λ a t. refl) t w a h v g) b k
  on_time t sql.SpanSet w e a b h k = by_type sql.SpanSet (OnTime t a) (null_time t a) (λ x v g. timed (SpanSet x) x (λ a t. refl) t w a h v g) b k
  on_time t _ w e a b h k = absurd (true≢false (sym e))

  pub time_restricted : (ty t u : SqlType) → are_timed ty t u ≡ true → (a b : Value) → IsValueOf t a → IsValueOf u b → OnTime ty a b
  time_restricted sql.TBool sql.TBool u e = on_time sql.TBool u refl e
  time_restricted sql.TInt sql.TInt u e = on_time sql.TInt u refl e
  time_restricted sql.TFrac sql.TFrac u e = on_time sql.TFrac u refl e
  time_restricted sql.TText sql.TText u e = on_time sql.TText u refl e
  time_restricted sql.TPoint sql.TPoint u e = on_time sql.TPoint u refl e
  time_restricted _ _ _ e = absurd (true≢false (sym e))

-- ---- by a base value

-- a temporal type as the result and the first operand, and its base type
abbrev pub are_valued : SqlType → SqlType → SqlType → Bool
are_valued sql.TBool sql.TBool sql.Bool = true
are_valued sql.TInt sql.TInt sql.Int = true
are_valued sql.TFrac sql.TFrac sql.Int = true
are_valued sql.TFrac sql.TFrac sql.Numeric = true
are_valued sql.TText sql.TText sql.Text = true
are_valued sql.TPoint sql.TPoint sql.Point = true
are_valued _ _ _ = false

module _ (o : Op) (want : Bool) (due : (ty : SqlType) (vs : List Value) → HaveNull vs ⊎ NothingIsLeft want is_then vs → NullIsDue o ty vs) where
  abbrev Valued : SqlType → Value → Value → Type 0
  Valued ty a b = (v : Value) → IsValueRestriction want a b v → IsAnswer o ty (a ∷ b ∷ []) v

  by_values : (t u : SqlType) → OnForms t (λ a. OnForms u (Valued t a)) → (a b : Value) → IsValueOf t a → IsValueOf u b → Valued t a b
  by_values t u f a b h k = by_types t u (Valued t)
      (λ b v g. null_answer o t (Null ∷ b ∷ []) v (due t (Null ∷ b ∷ []) (inl (first_null b))) g)
      (λ a v g. null_answer o t (a ∷ Null ∷ []) v (due t (a ∷ Null ∷ []) (inl (second_null a))) (value_right want a v g)) f a b h k

  pub value_restricted : (ty t u : SqlType) → are_valued ty t u ≡ true → (a b : Value) → IsValueOf t a → IsValueOf u b → Valued ty a b
  value_restricted sql.TBool sql.TBool sql.Bool e = by_values sql.TBool sql.Bool (λ m x v g. left_bools o want (λ t y. truth_relates Eq y x) m _ (λ e. due sql.TBool _ (inr (λ t h. none_left want (λ y. truth_relates Eq y x) (step_function m t) (e t) h))) v g)
  value_restricted sql.TInt sql.TInt sql.Int e = by_values sql.TInt sql.Int (λ m i x j v g. left_ints o want (λ t y. number_relates Eq y x) m _ i (λ e. due sql.TInt _ (inr (λ t h. none_left want (λ y. number_relates Eq y x) (step_function m t) (e t) h))) v g)
  value_restricted sql.TFrac sql.TFrac sql.Int e = by_values sql.TFrac sql.Int (λ m x j v g. left_fracs o want (λ t y. number_relates Eq y x) m _ (λ e. due sql.TFrac _ (inr (λ t h. none_left want (λ y. number_relates Eq y x) (line_function m t) (e t) h))) v g)
  value_restricted sql.TFrac sql.TFrac sql.Numeric e = by_values sql.TFrac sql.Numeric (λ m x v g. left_fracs o want (λ t y. number_relates Eq y x) m _ (λ e. due sql.TFrac _ (inr (λ t h. none_left want (λ y. number_relates Eq y x) (line_function m t) (e t) h))) v g)
  value_restricted sql.TText sql.TText sql.Text e = by_values sql.TText sql.Text (λ m x v g. left_texts o want (λ t y. text_relates Eq y x) m _ (λ e. due sql.TText _ (inr (λ t h. none_left want (λ y. text_relates Eq y x) (step_function m t) (e t) h))) v g)
  value_restricted sql.TPoint sql.TPoint sql.Point e = by_values sql.TPoint sql.Point (λ m x v g. left_points o want (λ t y. point_relates Eq y x) m _ (λ e. due sql.TPoint _ (inr (λ t h. none_left want (λ y. point_relates Eq y x) (plane_function m t) (e t) h))) v g)
  value_restricted _ _ _ e = absurd (true≢false (sym e))

-- ---- by a box or a polygon

module _ (o : Op) (want : Bool) (due : (vs : List Value) → HaveNull vs ⊎ NothingIsLeft want is_within vs → NullIsDue o sql.TPoint vs) where
  abbrev Clipped : (Value → Value → Value → Type 0) → Value → Value → Type 0
  Clipped G a b = (v : Value) → G a b v → IsAnswer o sql.TPoint (a ∷ b ∷ []) v

  null_first : (b v : Value) → v ≡ Null → IsAnswer o sql.TPoint (Null ∷ b ∷ []) v
  null_first b v e = null_answer o sql.TPoint (Null ∷ b ∷ []) v (due (Null ∷ b ∷ []) (inl (first_null b))) e

  null_second : (a v : Value) → v ≡ Null → IsAnswer o sql.TPoint (a ∷ Null ∷ []) v
  null_second a v e = null_answer o sql.TPoint (a ∷ Null ∷ []) v (due (a ∷ Null ∷ []) (inl (second_null a))) e

  pub box_restricted : (a b : Value) → IsValueOf sql.TPoint a → IsValueOf sql.Box b → Clipped (IsBoxRestriction want) a b
  box_restricted a b h k = by_types sql.TPoint sql.Box (Clipped (IsBoxRestriction want)) (λ b v g. null_first b v g) (λ a v g. null_second a v (box_right want a v g))
      (λ m x v g. left_points o want (λ t p. in_box x t p) m _ (λ e. due _ (inr (λ t h. none_left want (λ p. in_box x t p) (plane_function m t) (e t) h))) v g) a b h k

  pub polygon_restricted : (a b : Value) → IsValueOf sql.TPoint a → IsValueOf sql.Polygon b → Clipped (IsPolygonRestriction want) a b
  polygon_restricted a b h k = by_types sql.TPoint sql.Polygon (Clipped (IsPolygonRestriction want)) (λ b v g. null_first b v g) (λ a v g. null_second a v (polygon_right want a v g))
      (λ m x v g. left_points o want (λ t p. inside x p) m _ (λ e. due _ (inr (λ t h. none_left want (λ p. inside x p) (plane_function m t) (e t) h))) v g) a b h k

-- ---- the value at a moment

-- a base type, its temporal type and that of moments
abbrev pub are_looked_up : SqlType → SqlType → SqlType → Bool
are_looked_up sql.Bool sql.TBool sql.Moment = true
are_looked_up sql.Int sql.TInt sql.Moment = true
are_looked_up sql.Numeric sql.TFrac sql.Moment = true
are_looked_up sql.Text sql.TText sql.Moment = true
are_looked_up sql.Point sql.TPoint sql.Moment = true
are_looked_up _ _ _ = false

abbrev Looked : SqlType → Value → Value → Type 0
Looked ty a b = (v : Value) → v ≡ look_up a b → IsAnswer op.ValueAtTimestamp ty (a ∷ b ∷ []) v

there_answer : {B : Type 0} (make : B → Value) (ty : SqlType) (a : Value) (t : Ratio) (o : Option B) → ((x : B) → o ≡ Some x → IsValueOf ty (make x)) → ((x : B) → make x ≢ Null) → is_there t a ≡ is_some o → (v : Value) → v ≡ or_nothing make o → IsAnswer op.ValueAtTimestamp ty (a ∷ Moment t ∷ []) v
there_answer make ty a t None own some e v g = null_answer op.ValueAtTimestamp ty (a ∷ Moment t ∷ []) v (inr e) g
there_answer make ty a t (Some x) own some e v g = own_answer op.ValueAtTimestamp ty (a ∷ Moment t ∷ []) v (make x) (own x refl) (some x) g

by_moment : (ty t : SqlType) → OnForms t (λ a. (x : Ratio) → Looked ty a (Moment x)) → (a b : Value) → IsValueOf t a → IsValueOf sql.Moment b → Looked ty a b
by_moment ty t f a b h k = by_types t sql.Moment (Looked ty)
    (λ b v g. null_answer op.ValueAtTimestamp ty (Null ∷ b ∷ []) v (inl (first_null b)) (g ∙ look_left b))
    (λ a v g. null_answer op.ValueAtTimestamp ty (a ∷ Null ∷ []) v (inl (second_null a)) g) f a b h k

pub look_answers : (ty t u : SqlType) → are_looked_up ty t u ≡ true → (a b : Value) → IsValueOf t a → IsValueOf u b → Looked ty a b
look_answers sql.Bool sql.TBool sql.Moment e = by_moment sql.Bool sql.TBool (λ m x v g. there_answer Truth sql.Bool (MovingBool m) x (step_function m x) (λ y e. record { form = refl; whole = tt }) (λ y n. absurd (cc n)) refl v g)
look_answers sql.Int sql.TInt sql.Moment e = by_moment sql.Int sql.TInt (λ m i x v g. there_answer Number sql.Int (MovingInt m) x (step_function m x) (λ y e. record { form = refl; whole = ints_there m i x y e }) (λ y n. absurd (cc n)) refl v g)
look_answers sql.Numeric sql.TFrac sql.Moment e = by_moment sql.Numeric sql.TFrac (λ m x v g. there_answer Number sql.Numeric (MovingFrac m) x (line_function m x) (λ y e. record { form = refl; whole = tt }) (λ y n. absurd (cc n)) refl v g)
look_answers sql.Text sql.TText sql.Moment e = by_moment sql.Text sql.TText (λ m x v g. there_answer Text sql.Text (MovingText m) x (step_function m x) (λ y e. record { form = refl; whole = tt }) (λ y n. absurd (cc n)) refl v g)
look_answers sql.Point sql.TPoint sql.Moment e = by_moment sql.Point sql.TPoint (λ m x v g. there_answer Point sql.Point (MovingPoint m) x (plane_function m x) (λ y e. record { form = refl; whole = tt }) (λ y n. absurd (cc n)) refl v g)
look_answers _ _ _ e = absurd (true≢false (sym e))
