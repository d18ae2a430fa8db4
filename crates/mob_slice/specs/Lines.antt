-- Courses that change linearly: a number, and a point, each of whose coordinates changes linearly.
use Rattle.std.specs.Prelude.{◌≡◌, Bool, true, ◌&&◌, List, ◌++◌}
use Rattle.mob_ratio.{specs.Ratio.{Ratio}, specs.Order.{before}, specs.Line.{IsOnLine, line_at, line_continues}}
use Rattle.mob_frac.specs.Formula.{line_parts}
use Rattle.mob_plane.specs.declared.point.Point.{Point}
use Rattle.mob_slice.{specs.declared.line.Line.{Line}, specs.declared.line.PlaneLine.{PlaneLine}}

-- the number at t of a line on the span from l to u
abbrev pub line_value_of : Line → Ratio → Ratio → Ratio → Ratio
line_value_of c l u t = line_at c.from c.to l u t

-- the line c from l to m continues as d from m to u
abbrev pub line_continued : Line → Line → Ratio → Ratio → Ratio → Bool
line_continued c d l m u = line_continues c.from c.to d.from d.to l m u

-- the parts of the formula F1 of the number at t
abbrev pub line_parts_of : Line → Ratio → Ratio → Ratio → List Ratio
line_parts_of c l u t = line_parts c.from c.to l u t

-- the point at t, by coordinate
abbrev pub plane_value_of : PlaneLine → Ratio → Ratio → Ratio → Point
plane_value_of c l u t = record { x = line_at c.from.x c.to.x l u t; y = line_at c.from.y c.to.y l u t }

-- both coordinates continue
abbrev pub plane_continued : PlaneLine → PlaneLine → Ratio → Ratio → Ratio → Bool
plane_continued c d l m u = line_continues c.from.x c.to.x d.from.x d.to.x l m u && line_continues c.from.y c.to.y d.from.y d.to.y l m u

-- the parts of F1 for x, and then those for y
abbrev pub plane_parts_of : PlaneLine → Ratio → Ratio → Ratio → List Ratio
plane_parts_of c l u t = line_parts c.from.x c.to.x l u t ++ line_parts c.from.y c.to.y l u t

-- at every instant, the value of a line is on the straight line through its limits
abbrev pub NumbersAreStraight : Type 0
NumbersAreStraight = (c : Line) (lower upper t : Ratio) → before lower upper ≡ true → IsOnLine lower c.from upper c.to t (line_value_of c lower upper t)

-- and so is each coordinate of a line in the plane
abbrev pub PointsAreStraight : Type 0
PointsAreStraight = (c : PlaneLine) (lower upper t : Ratio) → before lower upper ≡ true → IsOnLine lower c.from.x upper c.to.x t (plane_value_of c lower upper t).x × IsOnLine lower c.from.y upper c.to.y t (plane_value_of c lower upper t).y
