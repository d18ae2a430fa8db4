-- The formulas of a restriction by a polygon, and whether a moving point is ever inside one.
use Rattle.std.{specs.Prelude.{◌≡◌, Bool, true, List, [], ◌∷◌, Some}, specs.List.{flat_map}}
use Rattle.mob_ratio.specs.Ratio.{Ratio, ◌-ℚ◌}
use Rattle.mob_plane.{specs.declared.point.Point.{Point}, specs.Turns.{turn, turns_parts}, specs.Rings.{all_edges}, specs.Membership.{inside}, specs.EdgeWise.{inside_by, signs_to}}
use Rattle.mob_slice.{specs.Slices.{value_at}, specs.Sides.{at_ends}, specs.Cut.{slice_value}, specs.Lines.{plane_value_of, plane_parts_of}, specs.Entries.{Entry}, specs.declared.slice.Slice.{Slice}}
use Rattle.mob_slice.{specs.declared.line.PlaneLine.{PlaneLine}, specs.declared.formula.Formula.TheVariants.{F2, F4}}
use Rattle.mob_cells.{specs.declared.linear.Ends.{Ends}, specs.Kept.{entries_of_cuts}}

-- F2: the differences of p to the two ends of an edge, by coordinate
abbrev pub edge_parts : Point → Point × Point → List Ratio
edge_parts p e = (p.x -ℚ e.0.x) ∷ (p.x -ℚ e.1.x) ∷ (p.y -ℚ e.0.y) ∷ (p.y -ℚ e.1.y) ∷ []

-- the same for all edges, and so for each point of each ring
abbrev pub edges_parts : Point → List (Point × Point) → List Ratio
edges_parts p es = flat_map (edge_parts p) es

-- the linear functions whose signs give the position, relative to an edge, of a point on the
-- segment from p to q: its turn, and its differences to the two ends of the edge
abbrev pub edge_ends : Point → Point → Point × Point → List Ends
edge_ends p q e =
    record { at_lower = turn e.0 e.1 p; at_upper = turn e.0 e.1 q }
    ∷ record { at_lower = p.x -ℚ e.0.x; at_upper = q.x -ℚ e.0.x }
    ∷ record { at_lower = p.x -ℚ e.1.x; at_upper = q.x -ℚ e.1.x }
    ∷ record { at_lower = p.y -ℚ e.0.y; at_upper = q.y -ℚ e.0.y }
    ∷ record { at_lower = p.y -ℚ e.1.y; at_upper = q.y -ℚ e.1.y }
    ∷ []

abbrev pub edges_ends : Point → Point → List (Point × Point) → List Ends
edges_ends p q es = flat_map (edge_ends p q) es

-- The entries of one slice: F2, the differences of its positions at its two ends to both ends of
-- each edge, then F4, their turns from each edge, then F3, the roots of all of these on the slice,
-- then F1, the values of the slice at these roots.
abbrev pub entries_of_edges : List (Point × Point) → Slice PlaneLine → List Entry
entries_of_edges es s =
    record { formula = F2; parts = at_ends (λ t. edges_parts (slice_value plane_value_of s t) es) s.span }
    ∷ record { formula = F4; parts = at_ends (λ t. turns_parts (slice_value plane_value_of s t) es) s.span }
    ∷ entries_of_cuts plane_parts_of s s.span (edges_ends (slice_value plane_value_of s s.span.lower) (slice_value plane_value_of s s.span.upper) es)

abbrev pub entries_of_polygon : List (List Point) → Slice PlaneLine → List Entry
entries_of_polygon rings s = entries_of_edges (all_edges rings) s

-- by the signs of its turns and differences, the position is inside the polygon of these edges
abbrev pub is_inside_edges : List (Point × Point) → Point → Bool
is_inside_edges es p = inside_by (signs_to es p)

-- at some rational instant the moving point is defined and inside the polygon
abbrev pub IsEverInside : List (List Point) → List (Slice PlaneLine) → Type 0
IsEverInside rings v = (t : Ratio) × (p : Point) × (value_at plane_value_of v t ≡ Some p) × (inside rings p ≡ true)
