-- The numbers of a value at an instant that are computed. A slice holds its limits; so its value at
-- an end, and that of a constant one, is not computed.
use Rattle.std.specs.Prelude.{cond, not, ◌&&◌, ◌||◌, List, [], ◌∷◌, ◌++◌}
use Rattle.mob_ratio.{specs.Ratio.{Ratio}, specs.Order.{before, same}, specs.Line.{line_at}}
use Rattle.mob_slice.{specs.declared.line.Line.{Line}, specs.declared.line.PlaneLine.{PlaneLine}}

-- the number at t of the line from x0 at l to x1 at u, if it is not held
abbrev pub line_numbers : Ratio → Ratio → Ratio → Ratio → Ratio → List Ratio
line_numbers x0 x1 l u t = cond (before l u && not (same t l || same t u || same x0 x1)) (line_at x0 x1 l u t ∷ []) []

-- of a course: a number, and a point by coordinate
abbrev pub line_numbers_of : Line → Ratio → Ratio → Ratio → List Ratio
line_numbers_of c l u t = line_numbers c.from c.to l u t

abbrev pub plane_numbers_of : PlaneLine → Ratio → Ratio → Ratio → List Ratio
plane_numbers_of c l u t = line_numbers c.from.x c.to.x l u t ++ line_numbers c.from.y c.to.y l u t
