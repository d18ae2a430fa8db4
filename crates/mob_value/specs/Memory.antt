-- Which values hold memory.
use Rattle.std.specs.Prelude.{Bool, true, false}
use Rattle.mob_value.specs.declared.value.Value.{Value}
use Rattle.mob_value.specs.declared.value.Value.TheVariants as value

-- the value is a text, a polygon, a span, a span set, a box or a value over time; the other values
-- are plain data
abbrev pub holds_memory : Value → Bool
holds_memory value.Null = false
holds_memory (value.Bool truth) = false
holds_memory (value.Number number) = false
holds_memory (value.Text text) = true
holds_memory (value.Moment instant) = false
holds_memory (value.Point point) = false
holds_memory (value.Polygon rings) = true
holds_memory (value.Span span) = true
holds_memory (value.SpanSet spans) = true
holds_memory (value.Box box) = true
holds_memory (value.MovingBool slices) = true
holds_memory (value.MovingInt slices) = true
holds_memory (value.MovingFrac slices) = true
holds_memory (value.MovingText slices) = true
holds_memory (value.MovingPoint slices) = true
