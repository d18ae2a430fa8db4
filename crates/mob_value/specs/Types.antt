-- The values of each type, by their variants.
use Rattle.std.specs.Prelude.{Bool, true, false, cond}
use Rattle.mob_ast.specs.declared.types.SqlType.{SqlType}
use Rattle.mob_value.specs.declared.value.Value.{Value}
use Rattle.mob_ast.specs.declared.types.SqlType.TheVariants as sql
use Rattle.mob_value.specs.declared.value.Value.TheVariants as value

-- Whether a value is one of a type. NULL is a value of every type, and a number is one of int and
-- of numeric. `IsValueOf` of `mob_catalog` adds that the numbers of an int are whole.
abbrev pub is_of_type : SqlType → Value → Bool
is_of_type type value.Null = true
is_of_type sql.Bool (value.Bool truth) = true
is_of_type sql.Int (value.Number number) = true
is_of_type sql.Numeric (value.Number number) = true
is_of_type sql.Text (value.Text text) = true
is_of_type sql.Moment (value.Moment instant) = true
is_of_type sql.Point (value.Point point) = true
is_of_type sql.Polygon (value.Polygon rings) = true
is_of_type sql.Span (value.Span span) = true
is_of_type sql.SpanSet (value.SpanSet spans) = true
is_of_type sql.Box (value.Box box) = true
is_of_type sql.TBool (value.MovingBool slices) = true
is_of_type sql.TInt (value.MovingInt slices) = true
is_of_type sql.TFrac (value.MovingFrac slices) = true
is_of_type sql.TText (value.MovingText slices) = true
is_of_type sql.TPoint (value.MovingPoint slices) = true
is_of_type _ _ = false

-- a value read as one of a type: itself, or NULL if it has another type
abbrev pub read_as : SqlType → Value → Value
read_as type v = cond (is_of_type type v) v value.Null
