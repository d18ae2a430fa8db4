-- The entries of the operators on boxes and polygons in the wide mode: on each slice the instants
-- at which it enters and leaves, and where it is there. Those of a minus form are those of the at
-- form. eIntersects gives a truth value and has no entry.
use Rattle.std.{specs.Prelude.{cond, List, [], ◌∷◌, Option, Some, None}, specs.List.{flat_map}}
use Rattle.mob_ratio.specs.Ratio.{Ratio}
use Rattle.mob_plane.{specs.Membership.{inside}, specs.Rings.{all_edges}, specs.declared.point.Point.{Point as PointOf}}
use Rattle.mob_span.{specs.Span.{SpanOf, has_instant}, specs.Meet.{meet_of}}
use Rattle.mob_slice.{specs.Cut.{slice_parts, slice_value}, specs.Entries.{Entry}, specs.Lines.{plane_value_of}, specs.Modes.{entry_given}, specs.Numbers.{plane_numbers_of}, specs.Sides.{at_ends}}
use Rattle.mob_slice.{specs.declared.line.PlaneLine.{PlaneLine}, specs.declared.slice.Slice.{Slice}}
use Rattle.mob_cells.specs.Changes.{cells_of, spans_where}
use Rattle.mob_stbox.{specs.Areas.{in_area}, specs.declared.area.Area.{Area}}
use Rattle.mob_value.{specs.declared.value.Value.{Value}, specs.declared.value.Value.TheVariants.{Box, MovingPoint, Polygon}}
use Rattle.mob_clip.{specs.Areas.{area_ends}, specs.Polygons.{edges_ends}}

-- the part of a slice on a span: both instants, and the points there that the slice does not hold
abbrev pub part_numbers : Slice PlaneLine → SpanOf → List Ratio
part_numbers s k = k.lower ∷ k.upper ∷ at_ends (slice_parts plane_numbers_of s) k

-- the parts of a slice in space, on its piece r
abbrev pub space_numbers : Option Area → Slice PlaneLine → SpanOf → List Ratio
space_numbers None s r = part_numbers s r
space_numbers (Some a) s r =
    flat_map (part_numbers s) (spans_where (λ t. in_area a (slice_value plane_value_of s t)) (cells_of r (area_ends a (slice_value plane_value_of s r.lower) (slice_value plane_value_of s r.upper))))

-- the parts of a slice in a box: in space, on the piece that it shares with the time of the box
abbrev pub numbers_in_time : Option SpanOf → Option Area → Slice PlaneLine → List Ratio
numbers_in_time None space s = space_numbers space s s.span
numbers_in_time (Some r) space s = cond (has_instant (meet_of s.span r)) (space_numbers space s (meet_of s.span r)) []

-- the entries of atStbox and minusStbox, one for each slice
abbrev pub wide_box_entries : Value → Value → List Entry
wide_box_entries (MovingPoint a) (Box b) = flat_map (λ s. entry_given (numbers_in_time b.time b.space s)) a
wide_box_entries _ _ = []

-- the parts of a slice in a polygon
abbrev pub ring_numbers : List (List PointOf) → Slice PlaneLine → List Ratio
ring_numbers rings s =
    flat_map (part_numbers s) (spans_where (λ t. inside rings (slice_value plane_value_of s t)) (cells_of s.span (edges_ends (slice_value plane_value_of s s.span.lower) (slice_value plane_value_of s s.span.upper) (all_edges rings))))

-- the entries of atGeometry and minusGeometry, one for each slice
abbrev pub wide_polygon_entries : Value → Value → List Entry
wide_polygon_entries (MovingPoint a) (Polygon rings) = flat_map (λ s. entry_given (ring_numbers rings s)) a
wide_polygon_entries _ _ = []
