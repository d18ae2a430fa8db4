-- When a point is in a polygon. A polygon is closed, so each point of an edge is in it. Of the
-- other points, those are in it from which a ray to the right crosses an odd number of edges, over
-- all rings together: the even-odd rule of Scalable Vector Graphics (SVG 2, "fill-rule"), by the
-- crossing count of Shimrat (Algorithm 112, Communications of the ACM 5(8), 1962). An edge counts
-- if one end is above the point and the other is not. So of two edges that meet at the height of
-- the point, both count, or none, or just one, depending on whether the ring passes that height
-- there or only touches it.
use Rattle.std.{specs.Prelude.{Bool, true, false, not, ◌&&◌, ◌||◌, ◌%◌, ℕ, nat_eq, List, length}, specs.List.{list_any, filter}}
use Rattle.mob_ratio.{specs.Ratio.{Ratio}, specs.Order.{before, up_to, same}, specs.Sign.{nil}, specs.Line.{line_value}}
use Rattle.mob_plane.{specs.Turns.{turn}, specs.Rings.{all_edges}, specs.declared.point.Point.{Point}}

-- q lies between x and y, or is one of them
abbrev pub lies_between : Ratio → Ratio → Ratio → Bool
lies_between x y q = (up_to x q && up_to q y) || (up_to y q && up_to q x)

-- p lies on the edge: on the line through its ends, and between them in each coordinate
abbrev pub lies_on : Point → Point × Point → Bool
lies_on p e = same (turn e.0 e.1 p) nil && (lies_between e.0.x e.1.x p.x && lies_between e.0.y e.1.y p.y)

abbrev pub is_one_alone : Bool → Bool → Bool
is_one_alone true b = not b
is_one_alone false b = b

-- one end of the edge is above p, and the other is at its height or below it
abbrev pub passes_height : Point → Point × Point → Bool
passes_height p e = is_one_alone (before p.y e.0.y) (before p.y e.1.y)

-- the x of the straight line through the ends of the edge at the height h
abbrev pub crossing_at : Point × Point → Ratio → Ratio
crossing_at e h = line_value e.0.y e.0.x e.1.y e.1.x h

-- the edge crosses the height of p to the right of p
abbrev pub passes_right : Point → Point × Point → Bool
passes_right p e = passes_height p e && before p.x (crossing_at e p.y)

abbrev pub is_odd : ℕ → Bool
is_odd n = nat_eq (n % 2) 1

-- p lies on an edge, or the number of edges that cross its height to the right of it is odd
abbrev pub inside : List (List Point) → Point → Bool
inside rings p = list_any (lies_on p) (all_edges rings) || is_odd (length (filter (passes_right p) (all_edges rings)))
