-- Differences that are already known.
use Rattle.std.specs.Prelude.{◌≡◌, Option, MatchOption}
use Rattle.mob_frac.specs.Formula.{AllFit}
use Rattle.mob_plane.specs.declared.point.Point.{Point}
use Rattle.mob_clip.{specs.declared.sides.Known.{Known}, specs.Sides.{to_point, point_parts}}

-- they are those of the known point, if any, and fit
abbrev pub IsKnown : Point → Point → Option Known → Type 0
IsKnown p q known = MatchOption known (Unit {0}) (λ k. (k.to ≡ to_point p q k.point) × AllFit (point_parts p q k.point))
