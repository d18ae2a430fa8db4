-- The entries of restrictions by time and by value, and of the value at one instant, in the wide
-- mode. Those of a minus form are those of the at form.
use Rattle.std.{specs.Prelude.{Bool, List, [], Option, Some, None}, specs.List.{flat_map}}
use Rattle.mob_ratio.specs.Ratio.{Ratio}
use Rattle.mob_span.{specs.Meets.{shared_pieces}, specs.Span.{SpanOf}}
use Rattle.mob_slice.{specs.Cut.{slice_parts, slice_value}, specs.Entries.{Entry}, specs.Instants.{parts_at}, specs.LineComparison.{number_gaps, number_relates, point_gaps, point_relates}, specs.Lines.{line_value_of, plane_value_of}}
use Rattle.mob_slice.{specs.Modes.{entry_given}, specs.Numbers.{line_numbers_of, plane_numbers_of}, specs.Operands.{steady_parts, steady_value}, specs.Sides.{at_ends}, specs.declared.comparison.Gaps.{Gaps}, specs.declared.comparison.Rel.TheVariants.{Eq}, specs.declared.slice.Slice.{Slice}}
use Rattle.mob_cells.{specs.Changes.{changes_inside}, specs.Gaps.{gap_ends}}
use Rattle.mob_value.specs.declared.value.Value.{Value}
use Rattle.mob_value.specs.declared.value.Value.TheVariants.{Bool as Truth, Number, Text, Moment, Point, MovingBool, MovingInt, MovingFrac, MovingText, MovingPoint}
use Rattle.mob_value.specs.Relations.{text_relates, truth_relates}
use Rattle.mob_restrict.{specs.Sql.Entries.{no_gaps}, specs.Sql.Times.{asked_spans}, specs.Values.{slice_gaps}}

-- atTime: the values at the two ends of the overlap of a slice and a span, if a slice does not hold
-- them. Steps hold all of theirs.
abbrev pub given_cuts : {C : Type 0} → (C → Ratio → Ratio → Ratio → List Ratio) → List SpanOf → List (Slice C) → List Entry
given_cuts numbers spans slices = flat_map (λ p. entry_given (at_ends (slice_parts numbers p.left) p.span)) (shared_pieces (λ s. s.span) (λ r. r) slices spans)

abbrev pub wide_cuts_of : List SpanOf → Value → List Entry
wide_cuts_of spans (MovingBool a) = given_cuts steady_parts spans a
wide_cuts_of spans (MovingInt a) = given_cuts steady_parts spans a
wide_cuts_of spans (MovingFrac a) = given_cuts line_numbers_of spans a
wide_cuts_of spans (MovingText a) = given_cuts steady_parts spans a
wide_cuts_of spans (MovingPoint a) = given_cuts plane_numbers_of spans a
wide_cuts_of spans _ = []

abbrev pub wide_cuts_at : Option (List SpanOf) → Value → List Entry
wide_cuts_at None a = []
wide_cuts_at (Some spans) a = wide_cuts_of spans a

abbrev pub wide_restriction_entries : Value → Value → List Entry
wide_restriction_entries a b = wide_cuts_at (asked_spans b) a

-- valueAtTimestamp: the value at that instant, once, if a slice does not hold it
abbrev pub value_numbers : Value → Ratio → List Ratio
value_numbers (MovingFrac a) t = parts_at line_numbers_of a t
value_numbers (MovingPoint a) t = parts_at plane_numbers_of a t
value_numbers _ t = []

abbrev pub wide_look_entries : Value → Value → List Entry
wide_look_entries a (Moment t) = entry_given (value_numbers a t)
wide_look_entries a _ = []

-- atValues: on each slice the instants inside it at which it comes to x or leaves it. Its value is
-- x there, which is held. Steps have none.
abbrev pub value_changes : {C B : Type 0} → (C → Ratio → Ratio → Ratio → B) → (B → B → Gaps) → (B → B → Bool) → B → Slice C → List Ratio
value_changes value gaps relates x s = changes_inside (λ t. relates (slice_value value s t) x) s.span (gap_ends (slice_gaps value gaps x s s.span.lower) (slice_gaps value gaps x s s.span.upper))

abbrev pub given_values : {C B : Type 0} → (C → Ratio → Ratio → Ratio → B) → (B → B → Gaps) → (B → B → Bool) → B → Slice C → List Entry
given_values value gaps relates x s = entry_given (value_changes value gaps relates x s)

abbrev pub wide_value_entries : Value → Value → List Entry
wide_value_entries (MovingBool a) (Truth x) = flat_map (given_values steady_value no_gaps (truth_relates Eq) x) a
wide_value_entries (MovingInt a) (Number x) = flat_map (given_values steady_value no_gaps (number_relates Eq) x) a
wide_value_entries (MovingFrac a) (Number x) = flat_map (given_values line_value_of number_gaps (number_relates Eq) x) a
wide_value_entries (MovingText a) (Text x) = flat_map (given_values steady_value no_gaps (text_relates Eq) x) a
wide_value_entries (MovingPoint a) (Point x) = flat_map (given_values plane_value_of point_gaps (point_relates Eq) x) a
wide_value_entries _ _ = []
