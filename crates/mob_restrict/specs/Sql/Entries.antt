-- The entries of restrictions by time and by value, and of the value at one instant.
use Rattle.std.{specs.Prelude.{List, [], ◌∷◌, Option, Some, None}, specs.List.{flat_map}}
use Rattle.mob_ratio.specs.Ratio.{Ratio}
use Rattle.mob_span.{specs.Meets.{shared_pieces}, specs.Span.{SpanOf}}
use Rattle.mob_slice.{specs.Entries.{Entry}, specs.Instants.{parts_at}, specs.Lines.{line_parts_of, plane_parts_of, line_value_of, plane_value_of}, specs.Operands.{steady_parts, steady_value}}
use Rattle.mob_slice.{specs.declared.formula.Formula.TheVariants.{F1}, specs.declared.slice.Slice.{Slice}, specs.LineComparison.{number_gaps, point_gaps}, specs.declared.comparison.Gaps.{Gaps}}
use Rattle.mob_slice.specs.declared.comparison.Gaps.TheVariants.{Constant}
use Rattle.mob_value.specs.declared.value.Value.{Value}
use Rattle.mob_value.specs.declared.value.Value.TheVariants.{Bool as Truth, Number, Text, Moment, Point, MovingBool, MovingInt, MovingFrac, MovingText, MovingPoint}
use Rattle.mob_restrict.{specs.Cuts.{entry_of_cut}, specs.Sql.Times.{asked_spans}, specs.Values.{entries_of_value}}

-- the entries of atTime and minusTime: F1 at the two ends of the overlap of a slice and a span
abbrev pub cut_entries : {C : Type 0} → (C → Ratio → Ratio → Ratio → List Ratio) → List SpanOf → List (Slice C) → List Entry
cut_entries parts spans slices = flat_map (entry_of_cut parts) (shared_pieces (λ s. s.span) (λ r. r) slices spans)

abbrev pub cuts_of : List SpanOf → Value → List Entry
cuts_of spans (MovingBool a) = cut_entries steady_parts spans a
cuts_of spans (MovingInt a) = cut_entries steady_parts spans a
cuts_of spans (MovingFrac a) = cut_entries line_parts_of spans a
cuts_of spans (MovingText a) = cut_entries steady_parts spans a
cuts_of spans (MovingPoint a) = cut_entries plane_parts_of spans a
cuts_of spans _ = []

abbrev pub cuts_at : Option (List SpanOf) → Value → List Entry
cuts_at None a = []
cuts_at (Some spans) a = cuts_of spans a

abbrev pub restriction_entries : Value → Value → List Entry
restriction_entries a b = cuts_at (asked_spans b) a

-- the parts of the value at an instant
abbrev pub value_parts : Value → Ratio → List Ratio
value_parts (MovingBool a) t = parts_at steady_parts a t
value_parts (MovingInt a) t = parts_at steady_parts a t
value_parts (MovingFrac a) t = parts_at line_parts_of a t
value_parts (MovingText a) t = parts_at steady_parts a t
value_parts (MovingPoint a) t = parts_at plane_parts_of a t
value_parts _ t = []

-- the one entry of valueAtTimestamp: F1 at that instant
abbrev pub look_entry : List Ratio → List Entry
look_entry parts = record { formula = F1; parts = parts } ∷ []

abbrev pub look_entries : Value → Value → List Entry
look_entries a (Moment t) = look_entry (value_parts a t)
look_entries a _ = []

-- steps have no gaps
abbrev pub no_gaps : {B : Type 0} → B → B → Gaps
no_gaps x y = Constant

-- the entries of atValues and minusValues, on each slice
abbrev pub value_entries : Value → Value → List Entry
value_entries (MovingBool a) (Truth x) = flat_map (entries_of_value steady_value steady_parts no_gaps x) a
value_entries (MovingInt a) (Number x) = flat_map (entries_of_value steady_value steady_parts no_gaps x) a
value_entries (MovingFrac a) (Number x) = flat_map (entries_of_value line_value_of line_parts_of number_gaps x) a
value_entries (MovingText a) (Text x) = flat_map (entries_of_value steady_value steady_parts no_gaps x) a
value_entries (MovingPoint a) (Point x) = flat_map (entries_of_value plane_value_of plane_parts_of point_gaps x) a
value_entries _ _ = []
