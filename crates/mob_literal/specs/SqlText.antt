-- The texts of SQL values, type by type: the value of a text, and the printed text of a value.
use Rattle.std.specs.Prelude.{◌≡◌, ℤ, [], true, false, Result, Ok, Err}
use Rattle.mob_ratio.specs.Order.{same}
use Rattle.mob_language.specs.Language.{Text}
use Rattle.mob_span.specs.Flags.{same_bool}
use Rattle.mob_slice.{specs.Sameness.{same_bytes}, specs.CourseOf.{steady_course, line_course, plane_course}}
use Rattle.mob_ast.specs.declared.types.SqlType.{SqlType}
use Rattle.mob_value.specs.declared.value.Value.{Value}
use Rattle.mob_numeral.{specs.declared.fault.ReadText.{ReadText}, specs.Verdict.{TextForm, Lit}, specs.Numbers.{numbers, whole_numbers}, specs.NumberText.{number_text}, specs.Fitting.{number_value}}
use Rattle.mob_scalar.{specs.Moments.{moments}, specs.MomentText.{moment_text}, specs.Truth.{truths, truth_text}, specs.Quoted.{quoted_text}}
use Rattle.mob_points.{specs.Points.{point_value, points}, specs.PointText.{point_text}}
use Rattle.mob_geotext.{specs.Spans.{spans, span_sets}, specs.SpanText.{span_text, span_set_text}, specs.Polygons.{polygons}, specs.PolygonText.{polygon_text}, specs.Boxes.{boxes}}
use Rattle.mob_geotext.specs.BoxText.{box_text}
use Rattle.mob_literal.specs.Sound.{literals, steps}
use Rattle.mob_written.{specs.Values.{any_value, is_whole_number, truth_value, quoted_value}, specs.Printed.{moving_text}, specs.Style.{style_of}}
use Rattle.mob_ast.specs.declared.types.SqlType.TheVariants as sql
use Rattle.mob_value.specs.declared.value.Value.TheVariants as value

-- every text is its own value
abbrev pub texts : TextForm Text Text
texts = record {
  shape = λ text v. text ≡ v;
  long = λ v. ⊥;
  large = λ v. ⊥;
  unsound = λ v. ⊥;
  means = λ v w. w ≡ v;
}

-- the SQL value made of the value of the text, or the fault of the text
abbrev pub SaysInForm : {S V : Type 0} → TextForm S V → (V → Value) → Text → Result Value ReadText → Type 0
SaysInForm {S} {V} f made text (Ok v) = (w : V) × (v ≡ made w) × Lit f text (Ok w)
SaysInForm f made text (Err fault) = Lit f text (Err fault)

-- The value of a text in a type, with instants counted from a day, or its fault.
abbrev pub SaysAs : SqlType → ℤ → Text → Result Value ReadText → Type 0
SaysAs sql.Bool day text r = SaysInForm truths value.Bool text r
SaysAs sql.Int day text r = SaysInForm whole_numbers value.Number text r
SaysAs sql.Numeric day text r = SaysInForm numbers value.Number text r
SaysAs sql.Text day text r = SaysInForm texts value.Text text r
SaysAs sql.Moment day text r = SaysInForm (moments day) value.Moment text r
SaysAs sql.Point day text r = SaysInForm points value.Point text r
SaysAs sql.Polygon day text r = SaysInForm polygons value.Polygon text r
SaysAs sql.Span day text r = SaysInForm (spans day) value.Span text r
SaysAs sql.SpanSet day text r = SaysInForm (span_sets day) value.SpanSet text r
SaysAs sql.Box day text r = SaysInForm (boxes day) value.Box text r
SaysAs sql.TBool day text r = SaysInForm (steps day truth_value any_value same_bool) value.MovingBool text r
SaysAs sql.TInt day text r = SaysInForm (steps day number_value is_whole_number same) value.MovingInt text r
SaysAs sql.TFrac day text r = SaysInForm (literals day false number_value any_value line_course) value.MovingFrac text r
SaysAs sql.TText day text r = SaysInForm (steps day quoted_value any_value same_bytes) value.MovingText text r
SaysAs sql.TPoint day text r = SaysInForm (literals day true point_value any_value plane_course) value.MovingPoint text r

-- The printed text of a value, with instants counted from a day. NULL has none.
abbrev pub value_text : ℤ → Value → Text
value_text day value.Null = []
value_text day (value.Bool truth) = truth_text truth
value_text day (value.Number number) = number_text number
value_text day (value.Text text) = text
value_text day (value.Moment instant) = moment_text day instant
value_text day (value.Point point) = point_text point
value_text day (value.Polygon rings) = polygon_text rings
value_text day (value.Span span) = span_text day span
value_text day (value.SpanSet spans) = span_set_text day spans
value_text day (value.Box box) = box_text day box
value_text day (value.MovingBool slices) = moving_text (style_of (steady_course same_bool) truth_text day) slices
value_text day (value.MovingInt slices) = moving_text (style_of (steady_course same) number_text day) slices
value_text day (value.MovingFrac slices) = moving_text (style_of line_course number_text day) slices
value_text day (value.MovingText slices) = moving_text (style_of (steady_course same_bytes) quoted_text day) slices
value_text day (value.MovingPoint slices) = moving_text (style_of plane_course point_text day) slices
