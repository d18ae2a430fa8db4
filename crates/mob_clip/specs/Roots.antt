-- The functions of an edge on a slice, each with its root.
use Rattle.std.{specs.Prelude.{◌≡◌, true, List, [], ◌∷◌, map, None, MatchOption}, specs.List.{AllByRecursion, flat_map}}
use Rattle.mob_ratio.{specs.Ratio.{Ratio}, specs.Order.{up_to}}
use Rattle.mob_frac.specs.Formula.{AllFit}
use Rattle.mob_span.specs.Span.{SpanOf}
use Rattle.mob_plane.specs.declared.point.Point.{Point}
use Rattle.mob_slice.{specs.Cut.{slice_parts}, specs.Lines.{plane_parts_of}, specs.Entries.{IsFirst}, specs.declared.slice.Slice.{Slice}, specs.declared.line.PlaneLine.{PlaneLine}}
use Rattle.mob_cells.{specs.declared.linear.Ends.{Ends}, specs.declared.signs.Placed.{Placed}, specs.Roots.{root_of, as_list}, specs.Cells.{IsPlaced}}
use Rattle.mob_clip.{specs.declared.sides.EdgeEnds.{EdgeEnds}, specs.declared.roots.EdgePlaced.{EdgePlaced}, specs.Polygons.{entries_of_edges}, specs.Sides.{beside, with_turn}}

abbrev pub listed_ends : EdgeEnds → List Ends
listed_ends g = g.turn ∷ g.x_a ∷ g.x_b ∷ g.y_a ∷ g.y_b ∷ []

-- a function with its root
abbrev pub place : SpanOf → Ends → Placed
place s f = record { ends = f; root = root_of s f }

abbrev pub place_edge : SpanOf → EdgeEnds → EdgePlaced
place_edge s g = record { turn = place s g.turn; x_a = place s g.x_a; x_b = place s g.x_b; y_a = place s g.y_a; y_b = place s g.y_b }

-- the functions of an edge with their roots, on a slice
abbrev pub placed_edge : Slice PlaneLine → Point × Point → EdgePlaced
placed_edge s e = place_edge s.span (with_turn s.course.from s.course.to (beside s.course.from s.course.to e))

-- each root is that of its function on the span, and the function has equal ends on a span of one
-- instant
pub record IsPlacedEdge (s : SpanOf) (g : EdgePlaced) : Type 0 where
  pub turn : IsPlaced s g.turn
  pub x_a : IsPlaced s g.x_a
  pub x_b : IsPlaced s g.x_b
  pub y_a : IsPlaced s g.y_a
  pub y_b : IsPlaced s g.y_b

-- the roots of an edge
abbrev pub edge_roots : EdgePlaced → List Ratio
edge_roots g = flat_map (λ p. as_list p.root) (g.turn ∷ g.x_a ∷ g.x_b ∷ g.y_a ∷ g.y_b ∷ [])

-- r lies between the ends of the span, or is one of them
abbrev pub IsBetweenEnds : SpanOf → Ratio → Type 0
IsBetweenEnds s r = (up_to s.lower r ≡ true) × (up_to r s.upper ≡ true)

-- the parts of a formula fit at each root of an edge
abbrev pub FitsRoot : (Ratio → List Ratio) → Placed → Type 0
FitsRoot parts p = MatchOption p.root (Unit {0}) (λ r. AllFit (parts r))

pub record CutsFit (parts : Ratio → List Ratio) (g : EdgePlaced) : Type 0 where
  pub turn : FitsRoot parts g.turn
  pub x_a : FitsRoot parts g.x_a
  pub x_b : FitsRoot parts g.x_b
  pub y_a : FitsRoot parts g.y_a
  pub y_b : FitsRoot parts g.y_b

-- F1: the parts of a slice at the roots of all edges
abbrev pub parts_at_roots : Slice PlaneLine → List EdgePlaced → List Ratio
parts_at_roots s edges = flat_map (slice_parts plane_parts_of s) (flat_map edge_roots edges)

-- the edges with their functions and roots on a slice, if every entry fits, including F1 at each
-- root
abbrev pub ArePlacedOn : Slice PlaneLine → List (Point × Point) → List EdgePlaced → Type 0
ArePlacedOn s edges v = (v ≡ map (placed_edge s) edges) × IsFirst (entries_of_edges edges s) None × AllByRecursion (CutsFit (slice_parts plane_parts_of s)) v
