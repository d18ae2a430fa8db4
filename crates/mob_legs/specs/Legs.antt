-- The difference of two points on a piece of time, along a straight segment from (x0, y0) to (x1,
-- y1), and the consequences for its length.
use Rattle.std.specs.Prelude.{Bool, true, false, cond, ◌&&◌, List, [], ◌∷◌, ◌++◌, Option, Some, None}
use Rattle.mob_ratio.{specs.Ratio.{Ratio, ◌+ℚ◌, ◌-ℚ◌, ◌*ℚ◌, ◌/ℚ◌}, specs.Order.{before, up_to, same, smaller}, specs.Sign.{nil}, specs.Quadratic.{reaches_by, infimum_by, square_is_within}}
use Rattle.mob_frac.specs.Formula.{square_parts}
use Rattle.mob_plane.specs.declared.point.Point.{Point}
use Rattle.mob_span.{specs.Span.{SpanOf}, specs.Meets.{PieceOf}}
use Rattle.mob_slice.{specs.Comparison.{gap_parts}, specs.LineComparison.{point_gaps}, specs.Lines.{plane_value_of}, specs.Sides.{SideOf, side_at}, specs.declared.line.PlaneLine.{PlaneLine}}
use Rattle.mob_legs.{specs.declared.legs.Leg.{Leg}, specs.declared.legs.Squares.{Squares}, specs.declared.legs.Foot.{Foot}}

-- the squared length of a vector (Pythagoras), which is always rational, unlike the length itself
abbrev pub length_squared : Ratio → Ratio → Ratio
length_squared x y = x *ℚ x +ℚ y *ℚ y

-- a piece of time with two points that move linearly or stay
abbrev pub PointPiece : Type 0
PointPiece = PieceOf (SideOf PlaneLine Point) (SideOf PlaneLine Point)

-- the differences of their coordinates at t, to the east and to the north
abbrev pub gap_x : PointPiece → Ratio → Ratio
gap_x p t = (side_at plane_value_of p.left t).x -ℚ (side_at plane_value_of p.right t).x

abbrev pub gap_y : PointPiece → Ratio → Ratio
gap_y p t = (side_at plane_value_of p.left t).y -ℚ (side_at plane_value_of p.right t).y

-- the segment of the difference on a piece
abbrev pub leg_of : PointPiece → Leg
leg_of p = record { x0 = gap_x p p.span.lower; y0 = gap_y p p.span.lower; x1 = gap_x p p.span.upper; y1 = gap_y p p.span.upper }

-- the points of a side at both ends of a span
abbrev pub ends_of : SideOf PlaneLine Point → SpanOf → PlaneLine
ends_of q r = record { from = side_at plane_value_of q r.lower; to = side_at plane_value_of q r.upper }

-- the segment of the difference of two points that move linearly, and the parts of its formula
abbrev pub leg_between : PlaneLine → PlaneLine → Leg
leg_between c d = record { x0 = c.from.x -ℚ d.from.x; y0 = c.from.y -ℚ d.from.y; x1 = c.to.x -ℚ d.to.x; y1 = c.to.y -ℚ d.to.y }

abbrev pub leg_parts : PlaneLine → PlaneLine → List Ratio
leg_parts c d = gap_parts (point_gaps c.from d.from) ++ gap_parts (point_gaps c.to d.to)

-- the squared lengths at both of its ends, and the parts of their formula
abbrev pub squares_of : Leg → Squares
squares_of g = record { first = length_squared g.x0 g.y0; last = length_squared g.x1 g.y1 }

abbrev pub squares_parts : Leg → List Ratio
squares_parts g = square_parts g.x0 g.y0 ++ square_parts g.x1 g.y1

-- the numbers that give the point of a segment nearest to (0, 0), from its start and its vector:
-- the squared length of the segment, the dot products of the start and of the end with its vector,
-- and the cross product of the start with its vector
abbrev pub foot_by : Ratio → Ratio → Ratio → Ratio → Foot
foot_by x0 y0 ex ey = record {
  length = ex *ℚ ex +ℚ ey *ℚ ey;
  along = x0 *ℚ ex +ℚ y0 *ℚ ey;
  beyond = (ex *ℚ ex +ℚ ey *ℚ ey) +ℚ (x0 *ℚ ex +ℚ y0 *ℚ ey);
  across = x0 *ℚ ey -ℚ y0 *ℚ ex;
}

-- x·y + z·w and x·y - z·w, with the parts of these formulas
abbrev pub dot_parts : Ratio → Ratio → Ratio → Ratio → List Ratio
dot_parts x y z w = (x *ℚ y) ∷ (z *ℚ w) ∷ (x *ℚ y +ℚ z *ℚ w) ∷ []

abbrev pub cross_parts : Ratio → Ratio → Ratio → Ratio → List Ratio
cross_parts x y z w = (x *ℚ y) ∷ (z *ℚ w) ∷ (x *ℚ y -ℚ z *ℚ w) ∷ []

-- the parts of their formula
abbrev pub foot_by_parts : Ratio → Ratio → Ratio → Ratio → List Ratio
foot_by_parts x0 y0 ex ey = dot_parts ex ex ey ey ++ (dot_parts x0 ex y0 ey ++ (((ex *ℚ ex +ℚ ey *ℚ ey) +ℚ (x0 *ℚ ex +ℚ y0 *ℚ ey)) ∷ cross_parts x0 ey y0 ex))

abbrev pub foot_of : Leg → Foot
foot_of g = foot_by g.x0 g.y0 (g.x1 -ℚ g.x0) (g.y1 -ℚ g.y0)

-- that point lies strictly between the ends: the segment approaches at its start and recedes at its
-- end
abbrev pub is_on_the_way : Foot → Bool
is_on_the_way f = before f.along nil && before nil f.beyond

-- it lies there and its squared length is at most D, and the parts of the quotients
abbrev pub foot_reaches : Ratio → Foot → Bool
foot_reaches D f = is_on_the_way f && square_is_within f.length f.across D

abbrev pub reach_quotients : Ratio → Foot → List Ratio
reach_quotients D f = cond (is_on_the_way f) ((f.across /ℚ f.length) ∷ cond (same f.across nil) [] ((D /ℚ f.across) ∷ [])) []

-- its squared length, if it lies there, and the parts
abbrev pub foot_square : Foot → Option Ratio
foot_square f = cond (is_on_the_way f) (Some (f.across *ℚ (f.across /ℚ f.length))) None

abbrev pub square_quotients : Foot → List Ratio
square_quotients f = cond (is_on_the_way f) ((f.across /ℚ f.length) ∷ (f.across *ℚ (f.across /ℚ f.length)) ∷ []) []

-- the squared length is at most D somewhere on a segment that takes longer than an instant
abbrev pub leg_reaches : Ratio → Bool → Bool → Leg → Bool
leg_reaches D lower_inc upper_inc g = reaches_by D (squares_of g).first (squares_of g).last lower_inc upper_inc (foot_reaches D (foot_of g))

-- the greatest lower bound of the squared length on such a segment, whichever ends are included
abbrev pub leg_approach : Leg → Ratio
leg_approach g = infimum_by (squares_of g).first (squares_of g).last (foot_square (foot_of g))

-- the squared length is at most D somewhere on a piece of time
abbrev pub piece_reaches : Ratio → PointPiece → Bool
piece_reaches D p = cond (before p.span.lower p.span.upper) (leg_reaches D p.span.lower_inc p.span.upper_inc (leg_of p)) (up_to (squares_of (leg_of p)).first D)

abbrev pub piece_approach : PointPiece → Ratio
piece_approach p = cond (before p.span.lower p.span.upper) (leg_approach (leg_of p)) (squares_of (leg_of p)).first

-- the smaller of the result so far and that of one more piece
abbrev pub nearest_of : Option Ratio → Ratio → Ratio
nearest_of None m = m
nearest_of (Some b) m = smaller m b

-- the list of pieces is not empty
abbrev pub are_some : List PointPiece → Bool
are_some [] = false
are_some (p ∷ ps) = true
