-- When the printed text of an SQL value reads back as that value.
use Rattle.std.specs.Prelude.{ℤ}
use Rattle.mob_ratio.specs.Order.{same}
use Rattle.mob_frac.specs.Fits.{Fits}
use Rattle.mob_span.specs.Flags.{same_bool}
use Rattle.mob_slice.{specs.Sameness.{same_bytes}, specs.CourseOf.{steady_course, line_course, plane_course}}
use Rattle.mob_ast.specs.declared.types.SqlType.{SqlType}
use Rattle.mob_value.specs.declared.value.Value.{Value}
use Rattle.mob_numeral.specs.NumberText.{number_text}
use Rattle.mob_scalar.{specs.Truth.{truth_text}, specs.Quoted.{quoted_text}, specs.MomentText.{IsDated}}
use Rattle.mob_geotext.specs.PolygonText.{IsReadablePolygon}
use Rattle.mob_points.specs.PointText.{point_text}
use Rattle.mob_literal.specs.Readable.{IsReadable, AnyTruth, IsInt, PointFits, IsReadableSpan, IsReadableSet, IsReadableBox, IsText}
use Rattle.mob_ast.specs.declared.types.SqlType.TheVariants as sql
use Rattle.mob_value.specs.declared.value.Value.TheVariants as value

-- the value is one of the type, and its printed text reads back as that value
abbrev pub IsReadableAs : SqlType → ℤ → Value → Type 0
IsReadableAs sql.Bool day (value.Bool truth) = AnyTruth truth
IsReadableAs sql.Int day (value.Number number) = IsInt number
IsReadableAs sql.Numeric day (value.Number number) = Fits number
IsReadableAs sql.Text day (value.Text text) = Unit {0}
IsReadableAs sql.Moment day (value.Moment instant) = IsDated day instant
IsReadableAs sql.Point day (value.Point point) = PointFits point
IsReadableAs sql.Polygon day (value.Polygon rings) = IsReadablePolygon rings
IsReadableAs sql.Span day (value.Span span) = IsReadableSpan day span
IsReadableAs sql.SpanSet day (value.SpanSet spans) = IsReadableSet day spans
IsReadableAs sql.Box day (value.Box box) = IsReadableBox day box
IsReadableAs sql.TBool day (value.MovingBool slices) = IsReadable (steady_course same_bool) day truth_text AnyTruth slices
IsReadableAs sql.TInt day (value.MovingInt slices) = IsReadable (steady_course same) day number_text IsInt slices
IsReadableAs sql.TFrac day (value.MovingFrac slices) = IsReadable line_course day number_text Fits slices
IsReadableAs sql.TText day (value.MovingText slices) = IsReadable (steady_course same_bytes) day quoted_text IsText slices
IsReadableAs sql.TPoint day (value.MovingPoint slices) = IsReadable plane_course day point_text PointFits slices
IsReadableAs type day v = ⊥
