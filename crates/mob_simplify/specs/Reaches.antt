-- The formulas of a straight course, split into the parts from its ends, from the instant, and from
-- each coordinate.
use Rattle.std.specs.Prelude.{cond, List, [], ◌∷◌}
use Rattle.mob_ratio.{specs.Ratio.{Ratio, ◌+ℚ◌, ◌-ℚ◌, ◌*ℚ◌, ◌/ℚ◌}, specs.Order.{same}}
use Rattle.mob_frac.specs.Fits.{IsExact}
use Rattle.mob_simplify.{specs.declared.breaks.Break.{Break}, specs.declared.passing.Limit.{Limit}, specs.declared.passing.CourseExtent.{CourseExtent}}

-- the square of a limit is that of its distance
abbrev pub IsSquared : Limit → Type 0
IsSquared limit = IsExact (limit.distance *ℚ limit.distance) limit.square

-- the time from p to n, and the extents in x and y
pub record IsBreakReach (p n : Break) (reach : CourseExtent) : Type 0 where
  pub time : IsExact (n.instant -ℚ p.instant) reach.time
  pub east : IsExact (n.place.x -ℚ p.place.x) reach.east
  pub north : IsExact (n.place.y -ℚ p.place.y) reach.north

-- the fraction of the time from l to u that has passed at t
abbrev pub part_gone : Ratio → Ratio → Ratio → Ratio
part_gone l u t = (t -ℚ l) /ℚ (u -ℚ l)

abbrev pub parts_gone : Ratio → Ratio → Ratio → List Ratio
parts_gone l u t = (t -ℚ l) ∷ (u -ℚ l) ∷ part_gone l u t ∷ []

-- a coordinate that goes from x0 to x1, after the fraction q of its time
abbrev pub moved_at : Ratio → Ratio → Ratio → Ratio
moved_at x0 x1 q = cond (same x0 x1) x0 (x0 +ℚ (x1 -ℚ x0) *ℚ q)

abbrev pub moved_parts : Ratio → Ratio → Ratio → List Ratio
moved_parts x0 x1 q = cond (same x0 x1) [] ((x1 -ℚ x0) ∷ ((x1 -ℚ x0) *ℚ q) ∷ (x0 +ℚ (x1 -ℚ x0) *ℚ q) ∷ [])
