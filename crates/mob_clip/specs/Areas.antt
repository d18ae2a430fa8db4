-- Rectangles: membership by the signs of the differences to the sides.
use Rattle.std.{specs.Prelude.{Bool, false, not, ◌&&◌, List, [], ◌∷◌}, specs.declared.cmp.Ordering.{Ordering}, specs.Ordering.{is_lt, is_gt}}
use Rattle.mob_ratio.specs.Ratio.{Ratio, ◌-ℚ◌}
use Rattle.mob_span.specs.Span.{SpanOf}
use Rattle.mob_slice.{specs.Sides.{at_ends}, specs.Cut.{slice_value}, specs.Lines.{plane_value_of, plane_parts_of}, specs.Entries.{Entry}, specs.declared.slice.Slice.{Slice}}
use Rattle.mob_slice.{specs.declared.line.PlaneLine.{PlaneLine}, specs.declared.formula.Formula.TheVariants.{F2}}
use Rattle.mob_plane.specs.declared.point.Point.{Point}
use Rattle.mob_cells.{specs.declared.linear.Ends.{Ends}, specs.Kept.{entries_of_cuts}}
use Rattle.mob_stbox.specs.declared.area.Area.{Area}
use Rattle.mob_clip.specs.declared.areas.Sides.{Sides}

-- F2: the differences of a point to the four sides
abbrev pub area_parts : Area → Point → List Ratio
area_parts a p = (p.x -ℚ a.xmin) ∷ (p.x -ℚ a.xmax) ∷ (p.y -ℚ a.ymin) ∷ (p.y -ℚ a.ymax) ∷ []

abbrev pub sides_of : Area → Point → Sides
sides_of a p = record { left = p.x -ℚ a.xmin; right = p.x -ℚ a.xmax; low = p.y -ℚ a.ymin; high = p.y -ℚ a.ymax }

-- the linear functions with these differences at one end, and those at the other
abbrev pub ends_of_sides : Sides → Sides → List Ends
ends_of_sides from to =
    record { at_lower = from.left; at_upper = to.left }
    ∷ record { at_lower = from.right; at_upper = to.right }
    ∷ record { at_lower = from.low; at_upper = to.low }
    ∷ record { at_lower = from.high; at_upper = to.high }
    ∷ []

-- the linear functions of these differences along the segment from p to q
abbrev pub area_ends : Area → Point → Point → List Ends
area_ends a p q =
    record { at_lower = p.x -ℚ a.xmin; at_upper = q.x -ℚ a.xmin }
    ∷ record { at_lower = p.x -ℚ a.xmax; at_upper = q.x -ℚ a.xmax }
    ∷ record { at_lower = p.y -ℚ a.ymin; at_upper = q.y -ℚ a.ymin }
    ∷ record { at_lower = p.y -ℚ a.ymax; at_upper = q.y -ℚ a.ymax }
    ∷ []

-- membership by the signs of the four differences
abbrev pub in_area_by : List Ordering → Bool
in_area_by (left ∷ right ∷ low ∷ high ∷ []) = not (is_lt left) && not (is_gt right) && (not (is_lt low) && not (is_gt high))
in_area_by os = false

-- The entries of space on the piece r of the slice s: F2, the differences to the sides at the two
-- ends of the piece, then F3, their roots on the piece, then F1, the values of the slice at these
-- roots.
abbrev pub entries_of_area : Area → Slice PlaneLine → SpanOf → List Entry
entries_of_area a s r =
    record { formula = F2; parts = at_ends (λ t. area_parts a (slice_value plane_value_of s t)) r }
    ∷ entries_of_cuts plane_parts_of s r (area_ends a (slice_value plane_value_of s r.lower) (slice_value plane_value_of s r.upper))
