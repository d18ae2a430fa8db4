-- The position of a point relative to a segment: the cross product of the segment and the vector
-- from its start to the point (Cormen, Leiserson, Rivest and Stein, Introduction to Algorithms,
-- section "Line-segment properties").
use Rattle.std.specs.Prelude.{List, [], ◌∷◌, ◌++◌}
use Rattle.mob_ratio.specs.Ratio.{Ratio, ◌-ℚ◌, ◌*ℚ◌}
use Rattle.mob_frac.specs.Formula.{parts_of_turn}
use Rattle.mob_plane.specs.declared.point.Point.{Point}

-- above 0 if p lies to the left of the direction from a to b, below 0 to the right of it, and 0 on
-- the line through both
abbrev pub turn : Point → Point → Point → Ratio
turn a b p = (b.x -ℚ a.x) *ℚ (p.y -ℚ a.y) -ℚ (b.y -ℚ a.y) *ℚ (p.x -ℚ a.x)

-- the parts of that formula
abbrev pub turn_parts : Point → Point → Point → List Ratio
turn_parts a b p = parts_of_turn a.x a.y b.x b.y p.x p.y

-- the parts of the turns of p from each of these edges
abbrev pub turns_parts : Point → List (Point × Point) → List Ratio
turns_parts p [] = []
turns_parts p (e ∷ es) = turn_parts e.0 e.1 p ++ turns_parts p es
