-- The distance of two points, and whether it is at most a given distance.
use Rattle.std.specs.Prelude.{Bool, ◌&&◌}
use Rattle.mob_ratio.{specs.Ratio.{Ratio, ◌-ℚ◌, ◌*ℚ◌}, specs.Order.{up_to}, specs.Sign.{nil}}
use Rattle.mob_plane.specs.declared.point.Point.{Point}
use Rattle.mob_legs.specs.Legs.{length_squared}

-- the squared distance of two points
abbrev pub distance_squared : Point → Point → Ratio
distance_squared a b = length_squared (a.x -ℚ b.x) (a.y -ℚ b.y)

-- the distance is at most d: then d is not below 0, and the square of the distance is at most that
-- of d
abbrev pub are_within : Ratio → Point → Point → Bool
are_within d a b = up_to nil d && up_to (distance_squared a b) (d *ℚ d)
