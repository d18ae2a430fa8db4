-- The text of an SQL value has at most one reading.
use Rattle.std.{specs.Prelude.{Result}, proofs.Common.{◌≡◌, ◌≢◌, ℤ, false, true, Ok, Err, sym, ap, ◌∙◌}}
use Rattle.mob_ratio.{specs.Order.{same}, proofs.Order.{same_exact}}
use Rattle.mob_language.specs.Language.{Text}
use Rattle.mob_span.specs.Flags.{same_bool, same_bool_exact}
use Rattle.mob_slice.{specs.Sameness.{same_bytes, same_bytes_exact}, specs.SteadyLaws.{steady_laws}, specs.LineLaws.{line_laws}, specs.PlaneLaws.{plane_laws}}
use Rattle.mob_slice.specs.CourseOf.{line_course, plane_course}
use Rattle.mob_plane.specs.Points.{same_point}
use Rattle.mob_points.{specs.Points.{points, point_value}, proofs.OnePoint.{one_point}}
use Rattle.mob_geotext.{specs.Boxes.{boxes}, specs.Polygons.{polygons}, specs.Spans.{spans, span_sets}, proofs.BoxesAgain.{one_box}, proofs.OneReadings.{one_span, one_span_set, one_polygon}}
use Rattle.mob_ast.specs.declared.types.SqlType.{SqlType}
use Rattle.mob_value.specs.declared.value.Value.{Value}
use Rattle.mob_numeral.{specs.declared.fault.ReadText.{ReadText}, specs.declared.fault.ReadText.TheVariants.{NoMemory}, specs.Verdict.{TextForm, HasOneReading}, specs.Numbers.{numbers, whole_numbers}}
use Rattle.mob_numeral.{specs.Fitting.{number_value}, proofs.Settled.{settled}}
use Rattle.mob_scalar.{specs.Moments.{moments}, specs.Truth.{truths}, proofs.OneReadings.{one_number, one_whole, one_moment, one_truth}}
use Rattle.mob_literal.{specs.Sound.{literals, steps}, specs.SqlText.{texts, SaysInForm, SaysAs}, proofs.OneReading.{one_reading}}
use Rattle.mob_written.specs.Values.{any_value, is_whole_number, truth_values, number_values, quoted_values, point_values, truth_value, quoted_value}
use Rattle.mob_ast.specs.declared.types.SqlType.TheVariants as sql
use Rattle.mob_value.specs.declared.value.Value.TheVariants as value

module _ {S V : Type 0} (f : TextForm S V) (made : V → Value) (one : HasOneReading f) (text : Text) where
  err : ReadText → Result V ReadText
  err fault = Err fault

  ok : V → Result V ReadText
  ok v = Ok v

  fault_is : (a b : ReadText) → ◌≡◌ {A = Result V ReadText} (Err a) (Err b) → a ≡ b
  fault_is a b e = cc

  value_is : (v w : V) → ◌≡◌ {A = Result V ReadText} (Ok v) (Ok w) → v ≡ w
  value_is v w e = cc

  ok_some : (v : V) → ◌≡◌ {A = Result V ReadText} (Ok v) (Err NoMemory) → ⊥
  ok_some v e = absurd cc

  ok_err : (v : V) (a : ReadText) → ◌≡◌ {A = Result V ReadText} (Ok v) (Err a) → ⊥
  ok_err v a e = absurd cc

  still : (a : ReadText) → (◌≡◌ {A = Result Value ReadText} (Err a) (Err NoMemory) → ⊥) → ◌≡◌ {A = Result V ReadText} (Err a) (Err NoMemory) → ⊥
  still a n e = n (ap (λ (x : ReadText). Err x) (fault_is a NoMemory e))

  says_one : (a b : Result Value ReadText) → a ≢ Err NoMemory → b ≢ Err NoMemory → SaysInForm f made text a → SaysInForm f made text b → a ≡ b
  says_one (Ok v) (Ok w) n m a b = ap (λ (x : Value). Ok x) (a.1 ∙ ap made (value_is a.0 b.0 (one text (Ok a.0) (Ok b.0) (ok_some a.0) (ok_some b.0) a.2 b.2)) ∙ sym b.1)
  says_one (Ok v) (Err e) n m a b = absurd (ok_err a.0 e (one text (Ok a.0) (Err e) (ok_some a.0) (still e m) a.2 b))
  says_one (Err e) (Ok w) n m a b = absurd (ok_err b.0 e (one text (Ok b.0) (Err e) (ok_some b.0) (still e n) b.2 a))
  says_one (Err e) (Err d) n m a b = ap (λ (x : ReadText). Err x) (fault_is e d (one text (Err e) (Err d) (still e n) (still d m) a b))

one_text : HasOneReading texts
one_text text = settled texts text (λ s t a b. sym a ∙ b) (λ s v w a b. a ∙ sym b)

pub one_sql_reading : (type : SqlType) (day : ℤ) (text : Text) (a b : Result Value ReadText) → a ≢ Err NoMemory → b ≢ Err NoMemory → SaysAs type day text a → SaysAs type day text b → a ≡ b
one_sql_reading sql.Bool day text = says_one truths value.Bool one_truth text
one_sql_reading sql.Int day text = says_one whole_numbers value.Number one_whole text
one_sql_reading sql.Numeric day text = says_one numbers value.Number one_number text
one_sql_reading sql.Text day text = says_one texts value.Text one_text text
one_sql_reading sql.Moment day text = says_one (moments day) value.Moment (one_moment day) text
one_sql_reading sql.Point day text = says_one points value.Point one_point text
one_sql_reading sql.Polygon day text = says_one polygons value.Polygon one_polygon text
one_sql_reading sql.Span day text = says_one (spans day) value.Span (one_span day) text
one_sql_reading sql.SpanSet day text = says_one (span_sets day) value.SpanSet (one_span_set day) text
one_sql_reading sql.Box day text = says_one (boxes day) value.Box (one_box day) text
one_sql_reading sql.TBool day text = says_one (steps day truth_value any_value same_bool) value.MovingBool (one_reading day same_bool (steady_laws false same_bool same_bool_exact) truth_values false any_value) text
one_sql_reading sql.TInt day text = says_one (steps day number_value is_whole_number same) value.MovingInt (one_reading day same (steady_laws false same same_exact) number_values false is_whole_number) text
one_sql_reading sql.TFrac day text = says_one (literals day false number_value any_value line_course) value.MovingFrac (one_reading day same line_laws number_values false any_value) text
one_sql_reading sql.TText day text = says_one (steps day quoted_value any_value same_bytes) value.MovingText (one_reading day same_bytes (steady_laws false same_bytes same_bytes_exact) quoted_values false any_value) text
one_sql_reading sql.TPoint day text = says_one (literals day true point_value any_value plane_course) value.MovingPoint (one_reading day same_point plane_laws point_values true any_value) text
