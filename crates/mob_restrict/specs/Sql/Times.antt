-- Operators on the instants of a temporal value: its restriction to given instants or to the
-- others, its value at one instant, and the instants at which it is defined.
use Rattle.std.specs.Prelude.{◌≡◌, Bool, List, [], ◌∷◌, Option, Some, None, MatchOption, is_some}
use Rattle.mob_ratio.{specs.Ratio.{Ratio}, specs.Order.{same}}
use Rattle.mob_span.{specs.Sets.{in_some}, specs.Span.{SpanOf}, specs.Flags.{same_bool}}
use Rattle.mob_slice.{specs.CourseOf.{CourseOf, steady_course, line_course, plane_course}, specs.Sameness.{same_bytes}, specs.declared.slice.Slice.{Slice}}
use Rattle.mob_cells.{specs.Cells.{instant_span}, specs.Restricted.{IsRestricted}}
use Rattle.mob_value.specs.declared.value.Value.{Value}
use Rattle.mob_value.specs.declared.value.Value.TheVariants.{Null, Bool as Truth, Number, Text, Moment, Point, Span, SpanSet, MovingBool, MovingInt, MovingFrac, MovingText, MovingPoint}
use Rattle.mob_value.{specs.Moving.{OverTime, step_function, line_function, plane_function, or_nothing, IsFunctionOrNull}, specs.Sets.{AreInstantsOf}}

-- the spans of the instants of a moment, a span or a span set; other values have none
abbrev pub asked_spans : Value → Option (List SpanOf)
asked_spans (Moment t) = Some (instant_span t ∷ [])
asked_spans (Span s) = Some (s ∷ [])
asked_spans (SpanSet spans) = Some spans
asked_spans _ = None

-- v is the part of slices at the instants of the spans if `want` is true, else the rest: the one
-- normal value, or NULL if no instant is left
abbrev pub IsRestrictionOf : {C B : Type 0} → CourseOf C B → (List (Slice C) → Value) → Bool → List SpanOf → List (Slice C) → Value → Type 0
IsRestrictionOf course make want spans slices v = IsFunctionOrNull course make (IsRestricted course.value want (λ t x. in_some spans t) slices) v

-- the restriction of a temporal value, which keeps its type; NULL for a value that is not temporal
abbrev pub IsRestriction : Bool → List SpanOf → Value → Value → Type 0
IsRestriction want spans (MovingBool a) v = IsRestrictionOf (steady_course same_bool) MovingBool want spans a v
IsRestriction want spans (MovingInt a) v = IsRestrictionOf (steady_course same) MovingInt want spans a v
IsRestriction want spans (MovingFrac a) v = IsRestrictionOf line_course MovingFrac want spans a v
IsRestriction want spans (MovingText a) v = IsRestrictionOf (steady_course same_bytes) MovingText want spans a v
IsRestriction want spans (MovingPoint a) v = IsRestrictionOf plane_course MovingPoint want spans a v
IsRestriction want spans _ v = v ≡ Null

-- atTime if `want` is true, minusTime if it is false
abbrev pub IsTimeRestriction : Bool → Value → Value → Value → Type 0
IsTimeRestriction want a b v = MatchOption (asked_spans b) (v ≡ Null) (λ spans. IsRestriction want spans a v)

-- the value of a temporal value at an instant, of its base type; NULL if it is undefined there
abbrev pub value_there : Value → Ratio → Value
value_there (MovingBool a) t = or_nothing Truth (step_function a t)
value_there (MovingInt a) t = or_nothing Number (step_function a t)
value_there (MovingFrac a) t = or_nothing Number (line_function a t)
value_there (MovingText a) t = or_nothing Text (step_function a t)
value_there (MovingPoint a) t = or_nothing Point (plane_function a t)
value_there _ t = Null

-- valueAtTimestamp
abbrev pub look_up : Value → Value → Value
look_up a (Moment t) = value_there a t
look_up a _ = Null

-- getTime: the instants at which the value is defined
abbrev pub IsTimeOf : {B : Type 0} → OverTime B → Value → Type 0
IsTimeOf f v = (spans : List SpanOf) × AreInstantsOf (λ t. is_some (f t)) spans × (v ≡ SpanSet spans)

abbrev pub IsDefinedTime : Value → Value → Type 0
IsDefinedTime (MovingBool a) v = IsTimeOf (step_function a) v
IsDefinedTime (MovingInt a) v = IsTimeOf (step_function a) v
IsDefinedTime (MovingFrac a) v = IsTimeOf (line_function a) v
IsDefinedTime (MovingText a) v = IsTimeOf (step_function a) v
IsDefinedTime (MovingPoint a) v = IsTimeOf (plane_function a) v
IsDefinedTime _ v = v ≡ Null
