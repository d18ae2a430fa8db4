-- A tint as linear values. With a tfrac or a numeric it is the tfrac of the same values.
use Rattle.std.specs.Prelude.{map, Option, ◌≡◌}
use Rattle.mob_ratio.specs.Ratio.{Ratio}
use Rattle.mob_slice.{specs.CourseOf.{line_course}, specs.declared.line.Line.{Line}, specs.declared.slice.Slice.{Slice}, specs.declared.steady.Steady.{Steady}}
use Rattle.mob_value.{specs.declared.value.Value.{Value}, specs.declared.value.Value.TheVariants.{MovingInt, MovingFrac, Null}, specs.Pairs.{LineOperand, frac_pair}}
use Rattle.mob_value.specs.Moving.{IsFunction, step_function}

-- the slice on the span of a step that is constant at its value
abbrev pub level_line : Slice (Steady Ratio) → Slice Line
level_line s = record { span = s.span; course = record { from = s.course.value; to = s.course.value } }

-- a tint as a tfrac; other values unchanged
abbrev pub as_line : Value → Value
as_line (MovingInt a) = MovingFrac (map level_line a)
as_line v = v

-- two numbers, at least one of which is temporal, as linear operands
abbrev pub line_pair : Value → Value → Option (LineOperand × LineOperand)
line_pair a b = frac_pair (as_line a) (as_line b)

-- v is the tint as a tfrac: it has the same value at each instant
abbrev pub IsWidened : Value → Value → Type 0
IsWidened (MovingInt a) v = IsFunction line_course MovingFrac (step_function a) v
IsWidened _ v = v ≡ Null
