-- Worked examples of points. Each holds by computing.
use Rattle.std.proofs.Common.{◌≡◌, true, false, pos, ℕ, List, [], ◌∷◌, refl}
use Rattle.mob_ratio.{specs.Gcd.{gcd, gcd_steps}, specs.Lowest.{in_lowest_terms}, specs.Ratio.{over, whole, ◌+ℚ◌, neg_ℚ, ◌*ℚ◌, turned, inverse}, specs.Order.{before, same}, specs.Line.{line_value}}
use Rattle.mob_plane.{specs.Points.{same_point}, specs.Turns.{turn}, specs.Rings.{has_short, has_open}, specs.Membership.{inside, crossing_at}, specs.declared.point.Point.{Point}}

-- POINT(1/2 3) and POINT(2/4 3) are equal
one_point : same_point (record { x = over (pos 1) 2; y = whole (pos 3) }) (record { x = over (pos 2) 4; y = whole (pos 3) }) ≡ true
unfolding over gcd gcd_steps in_lowest_terms whole before same
one_point = refl

-- POINT(0 1) and POINT(1 0) are not, nor are POINT(0 0) and POINT(0 1)
exchanged : same_point (record { x = whole (pos 0); y = whole (pos 1) }) (record { x = whole (pos 1); y = whole (pos 0) }) ≡ false
unfolding over gcd gcd_steps in_lowest_terms whole before same
exchanged = refl

above : same_point (record { x = whole (pos 0); y = whole (pos 0) }) (record { x = whole (pos 0); y = whole (pos 1) }) ≡ false
unfolding over gcd gcd_steps in_lowest_terms whole before same
above = refl

-- ---- polygons

-- a point with integer coordinates, not below 0
abbrev at : ℕ → ℕ → Point
at x y = record { x = whole (pos x); y = whole (pos y) }

-- POLYGON((0 0,10 0,10 10,0 10,0 0),(4 4,6 4,6 6,4 6,4 4)), a square with a hole
abbrev holed : List (List Point)
holed = (at 0 0 ∷ at 10 0 ∷ at 10 10 ∷ at 0 10 ∷ at 0 0 ∷ []) ∷ (at 4 4 ∷ at 6 4 ∷ at 6 6 ∷ at 4 6 ∷ at 4 4 ∷ []) ∷ []

-- POLYGON((0 0,4 4,4 0,0 4,0 0)), a figure of eight: its ring crosses itself at (2 2)
abbrev eight : List (List Point)
eight = (at 0 0 ∷ at 4 4 ∷ at 4 0 ∷ at 0 4 ∷ at 0 0 ∷ []) ∷ []

-- POLYGON((2 0,3 1,2 2,1 1,2 0)), a square on its corner
abbrev corner : List (List Point)
corner = (at 2 0 ∷ at 3 1 ∷ at 2 2 ∷ at 1 1 ∷ at 2 0 ∷ []) ∷ []

-- (0 1) lies to the left of the direction from (0 0) to (2 0): the turn is 2
left_turn : turn (at 0 0) (at 2 0) (at 0 1) ≡ whole (pos 2)
unfolding over gcd gcd_steps in_lowest_terms whole before same ◌+ℚ◌ neg_ℚ ◌*ℚ◌ turned inverse line_value
left_turn = refl

-- the edge from (2 0) to (3 1) is at x = 5/2 at the height 1/2
crossing : crossing_at (at 2 0, at 3 1) (over (pos 1) 2) ≡ over (pos 5) 2
unfolding over gcd gcd_steps in_lowest_terms whole before same ◌+ℚ◌ neg_ℚ ◌*ℚ◌ turned inverse line_value
crossing = refl

-- inside the square and outside of its hole
in_square : inside holed (at 2 5) ≡ true
unfolding over gcd gcd_steps in_lowest_terms whole before same ◌+ℚ◌ neg_ℚ ◌*ℚ◌ turned inverse line_value
in_square = refl

-- inside the hole
in_hole : inside holed (at 5 5) ≡ false
unfolding over gcd gcd_steps in_lowest_terms whole before same ◌+ℚ◌ neg_ℚ ◌*ℚ◌ turned inverse line_value
in_hole = refl

-- on the edge of the hole
on_hole : inside holed (at 4 5) ≡ true
unfolding over gcd gcd_steps in_lowest_terms whole before same ◌+ℚ◌ neg_ℚ ◌*ℚ◌ turned inverse line_value
on_hole = refl

-- on an edge of the square
on_edge : inside holed (at 10 3) ≡ true
unfolding over gcd gcd_steps in_lowest_terms whole before same ◌+ℚ◌ neg_ℚ ◌*ℚ◌ turned inverse line_value
on_edge = refl

-- at a corner of the square
on_corner : inside holed (at 0 10) ≡ true
unfolding over gcd gcd_steps in_lowest_terms whole before same ◌+ℚ◌ neg_ℚ ◌*ℚ◌ turned inverse line_value
on_corner = refl

-- to the right of it, level with two corners of the hole
beside : inside holed (at 11 4) ≡ false
unfolding over gcd gcd_steps in_lowest_terms whole before same ◌+ℚ◌ neg_ℚ ◌*ℚ◌ turned inverse line_value
beside = refl

-- to the left of the hole, level with its lower corners
level_with_hole : inside holed (at 1 4) ≡ true
unfolding over gcd gcd_steps in_lowest_terms whole before same ◌+ℚ◌ neg_ℚ ◌*ℚ◌ turned inverse line_value
level_with_hole = refl

-- level with the upper edge, to the right of it
level_with_top : inside holed (at 11 10) ≡ false
unfolding over gcd gcd_steps in_lowest_terms whole before same ◌+ℚ◌ neg_ℚ ◌*ℚ◌ turned inverse line_value
level_with_top = refl

-- in each half of the figure of eight
in_left_half : inside eight (at 1 2) ≡ true
unfolding over gcd gcd_steps in_lowest_terms whole before same ◌+ℚ◌ neg_ℚ ◌*ℚ◌ turned inverse line_value
in_left_half = refl

-- in the other half
in_right_half : inside eight (at 3 2) ≡ true
unfolding over gcd gcd_steps in_lowest_terms whole before same ◌+ℚ◌ neg_ℚ ◌*ℚ◌ turned inverse line_value
in_right_half = refl

-- above the crossing, between the halves
between_halves : inside eight (at 2 3) ≡ false
unfolding over gcd gcd_steps in_lowest_terms whole before same ◌+ℚ◌ neg_ℚ ◌*ℚ◌ turned inverse line_value
between_halves = refl

-- the point at which the ring crosses itself
at_crossing : inside eight (at 2 2) ≡ true
unfolding over gcd gcd_steps in_lowest_terms whole before same ◌+ℚ◌ neg_ℚ ◌*ℚ◌ turned inverse line_value
at_crossing = refl

-- level with a corner at which the ray passes through the ring
past_corner : inside corner (at 2 1) ≡ true
unfolding over gcd gcd_steps in_lowest_terms whole before same ◌+ℚ◌ neg_ℚ ◌*ℚ◌ turned inverse line_value
past_corner = refl

-- level with the corners at both sides, to the left of both
left_of_corner : inside corner (at 0 1) ≡ false
unfolding over gcd gcd_steps in_lowest_terms whole before same ◌+ℚ◌ neg_ℚ ◌*ℚ◌ turned inverse line_value
left_of_corner = refl

-- level with the lowest corner, which the ray only touches
left_of_foot : inside corner (at 1 0) ≡ false
unfolding over gcd gcd_steps in_lowest_terms whole before same ◌+ℚ◌ neg_ℚ ◌*ℚ◌ turned inverse line_value
left_of_foot = refl

-- level with the highest corner
left_of_tip : inside corner (at 1 2) ≡ false
unfolding over gcd gcd_steps in_lowest_terms whole before same ◌+ℚ◌ neg_ℚ ◌*ℚ◌ turned inverse line_value
left_of_tip = refl

-- no ring is short
no_ring : has_short [] ≡ true
unfolding over gcd gcd_steps in_lowest_terms whole before same ◌+ℚ◌ neg_ℚ ◌*ℚ◌ turned inverse line_value
no_ring = refl

-- three points are short, and open too
three_points : has_short ((at 0 0 ∷ at 1 0 ∷ at 0 1 ∷ []) ∷ []) ≡ true
unfolding over gcd gcd_steps in_lowest_terms whole before same ◌+ℚ◌ neg_ℚ ◌*ℚ◌ turned inverse line_value
three_points = refl

-- four points, the last of which is not the first
open_ring : has_open ((at 0 0 ∷ at 1 0 ∷ at 0 1 ∷ at 1 1 ∷ []) ∷ []) ≡ true
unfolding over gcd gcd_steps in_lowest_terms whole before same ◌+ℚ◌ neg_ℚ ◌*ℚ◌ turned inverse line_value
open_ring = refl

-- the rings of a square with a hole are closed
closed_ring : has_open holed ≡ false
unfolding over gcd gcd_steps in_lowest_terms whole before same ◌+ℚ◌ neg_ℚ ◌*ℚ◌ turned inverse line_value
closed_ring = refl
