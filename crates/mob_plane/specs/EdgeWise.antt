-- Membership in a polygon by signs alone: those of the turn from each edge to the point, and of the
-- differences of its coordinates to those of the edge's ends.
use Rattle.std.{specs.Prelude.{Bool, false, not, ◌&&◌, ◌||◌, List, [], ◌∷◌, map}, specs.declared.cmp.Ordering.{Ordering}, specs.declared.cmp.Ordering.TheVariants.{Less, Equal, Greater}}
use Rattle.std.specs.Ordering.{is_eq, is_lt, is_gt}
use Rattle.mob_ratio.{specs.Ratio.{◌-ℚ◌}, specs.Sign.{sign_of}}
use Rattle.mob_plane.{specs.Turns.{turn}, specs.Membership.{is_one_alone}, specs.declared.point.Point.{Point}, specs.declared.edges.EdgeSigns.{EdgeSigns}, specs.declared.edges.Tally.{Tally}}

-- the position of p relative to the edge from a to b
abbrev pub signs_at : Point → Point → Point → EdgeSigns
signs_at p a b = record {
  turn = sign_of (turn a b p);
  x_a = sign_of (p.x -ℚ a.x);
  x_b = sign_of (p.x -ℚ b.x);
  y_a = sign_of (p.y -ℚ a.y);
  y_b = sign_of (p.y -ℚ b.y);
}

-- the position of p relative to each of these edges
abbrev pub signs_to : List (Point × Point) → Point → List EdgeSigns
signs_to es p = map (λ e. signs_at p e.0 e.1) es

-- the two signs are not both below 0 and not both above
abbrev pub is_between : Ordering → Ordering → Bool
is_between o q = not (is_lt o && is_lt q) && not (is_gt o && is_gt q)

-- the point lies on the edge
abbrev pub is_on : EdgeSigns → Bool
is_on s = is_eq s.turn && (is_between s.x_a s.x_b && is_between s.y_a s.y_b)

-- The edge crosses the horizontal line through the point to the right of it: the point lies to the
-- right of an edge that goes down, or to the left of one that goes up.
abbrev pub crosses : EdgeSigns → Bool
crosses s = (is_lt s.y_a && (not (is_lt s.y_b) && is_lt s.turn)) || (is_lt s.y_b && (not (is_lt s.y_a) && is_gt s.turn))

abbrev pub some_on : List EdgeSigns → Bool
some_on [] = false
some_on (s ∷ ss) = is_on s || some_on ss

-- the number of crossing edges is odd
abbrev pub odd_cross : List EdgeSigns → Bool
odd_cross [] = false
odd_cross (s ∷ ss) = is_one_alone (crosses s) (odd_cross ss)

-- a point with these positions relative to the edges of a polygon is in it
abbrev pub inside_by : List EdgeSigns → Bool
inside_by ss = some_on ss || odd_cross ss

-- both signs are equal
abbrev pub same_order : Ordering → Ordering → Bool
same_order Less o = is_lt o
same_order Equal o = is_eq o
same_order Greater o = is_gt o

-- the tally after one more edge
abbrev pub with_edge : Tally → EdgeSigns → Tally
with_edge t s = record { on = t.on || is_on s; odd = is_one_alone t.odd (crosses s) }

-- the tally after more edges
abbrev pub counted : Tally → List EdgeSigns → Tally
counted t [] = t
counted t (s ∷ ss) = counted (with_edge t s) ss

-- the tally of no edges
abbrev pub none_yet : Tally
none_yet = record { on = false; odd = false }
