-- The formulas of a restriction by a box, and the parts around its time.
use Rattle.std.specs.Prelude.{◌≡◌, Bool, false, not, cond, List, [], ◌∷◌, ◌++◌, Option, Some, None}
use Rattle.mob_span.{specs.Span.{SpanOf, has_instant}, specs.Meet.{meet_of}, specs.Flags.{same_bool}}
use Rattle.mob_slice.{specs.Sides.{at_ends}, specs.Cut.{slice_parts}, specs.Lines.{plane_parts_of}, specs.Entries.{Entry}, specs.declared.slice.Slice.{Slice}}
use Rattle.mob_slice.{specs.declared.line.PlaneLine.{PlaneLine}, specs.declared.formula.Formula.TheVariants.{F1}}
use Rattle.mob_stbox.{specs.Boxes.{BoxOf}, specs.declared.area.Area.{Area}}
use Rattle.mob_clip.{specs.Pieces.{some_span, AreAllOrNothing}, specs.Areas.{entries_of_area}}

-- the entries of space on the piece r of a slice; a box without space has none
abbrev pub entries_of_space : Option Area → Slice PlaneLine → SpanOf → List Entry
entries_of_space None s r = []
entries_of_space (Some a) s r = entries_of_area a s r

-- The entries of one slice. If the box has a time that shares an instant with the slice: F1 of the
-- slice at the ends of their intersection, then the entries of space there.
abbrev pub entries_in_time : Option SpanOf → Option Area → Slice PlaneLine → List Entry
entries_in_time None space s = entries_of_space space s s.span
entries_in_time (Some r) space s = cond (has_instant (meet_of s.span r)) (record { formula = F1; parts = at_ends (slice_parts plane_parts_of s) (meet_of s.span r) } ∷ entries_of_space space s (meet_of s.span r)) []

abbrev pub entries_of_box : BoxOf → Slice PlaneLine → List Entry
entries_of_box b s = entries_in_time b.time b.space s

-- the part of s before its piece m, and the part after it
abbrev pub front_span : SpanOf → SpanOf → SpanOf
front_span s m = record { lower = s.lower; upper = m.lower; lower_inc = s.lower_inc; upper_inc = not m.lower_inc }

abbrev pub back_span : SpanOf → SpanOf → SpanOf
back_span s m = record { lower = m.upper; upper = s.upper; lower_inc = not m.upper_inc; upper_inc = s.upper_inc }

-- the slices are those kept before the piece m, then `middle`, then those kept after it
pub record AreAround (s : Slice PlaneLine) (want : Bool) (m : SpanOf) (middle v : List (Slice PlaneLine)) : Type 0 where
  pub front : List (Slice PlaneLine)
  pub back : List (Slice PlaneLine)
  pub in_front : AreAllOrNothing s (same_bool want false) (some_span (front_span s.span m)) front
  pub after : AreAllOrNothing s (same_bool want false) (some_span (back_span s.span m)) back
  pub all : v ≡ (front ++ middle) ++ back
