-- The printed text of an SQL value reads back as that value.
use Rattle.std.proofs.Common.{ℤ, refl, Ok}
use Rattle.mob_ast.specs.declared.types.SqlType.{SqlType}
use Rattle.mob_value.specs.declared.value.Value.{Value}
use Rattle.mob_numeral.proofs.Again.{number_again, whole_again}
use Rattle.mob_scalar.{proofs.TruthAgain.{truth_again}, proofs.MomentAgain.{moment_again}}
use Rattle.mob_literal.{specs.SqlText.{SaysAs, value_text}, specs.SqlReadable.{IsReadableAs}, proofs.MovingAgain.{truths_again, numbers_again, texts_again}}
use Rattle.mob_literal.proofs.LinesAgain.{lines_again, plane_lines_again}
use Rattle.mob_points.proofs.PointsAgain.{point_again}
use Rattle.mob_geotext.{proofs.BoxesAgain.{box_again}, proofs.PolygonsAgain.{polygon_again}, proofs.SpansAgain.{span_again, span_set_again}}
use Rattle.mob_ast.specs.declared.types.SqlType.TheVariants as sql
use Rattle.mob_value.specs.declared.value.Value.TheVariants as value

pub value_again : (type : SqlType) (day : ℤ) (v : Value) → IsReadableAs type day v → SaysAs type day (value_text day v) (Ok v)
value_again sql.Bool day (value.Bool b) h = (b, refl, truth_again b)
value_again sql.Int day (value.Number q) h = (q, refl, whole_again q h.fits h.is_whole)
value_again sql.Numeric day (value.Number q) h = (q, refl, number_again q h)
value_again sql.Text day (value.Text t) h = (t, refl, (t, refl, (λ x. x), (λ x. x), (λ x. x), refl))
value_again sql.Moment day (value.Moment t) h = (t, refl, moment_again day t h.fits h.dated)
value_again sql.Point day (value.Point p) h = (p, refl, point_again p h.x_fits h.y_fits)
value_again sql.Polygon day (value.Polygon rings) h = (rings, refl, polygon_again rings h)
value_again sql.Span day (value.Span s) h = (s, refl, span_again day s h.some h.dated)
value_again sql.SpanSet day (value.SpanSet v) h = (v, refl, span_set_again day v h.some h.short h.normal h.dated)
value_again sql.Box day (value.Box b) h = (b, refl, box_again day b h.stands h.dated)
value_again sql.TBool day (value.MovingBool v) h = (v, refl, truths_again day v h)
value_again sql.TInt day (value.MovingInt v) h = (v, refl, numbers_again day v h)
value_again sql.TFrac day (value.MovingFrac v) h = (v, refl, lines_again day v h)
value_again sql.TText day (value.MovingText v) h = (v, refl, texts_again day v h)
value_again sql.TPoint day (value.MovingPoint v) h = (v, refl, plane_lines_again day v h)
value_again type day v h = absurd h
