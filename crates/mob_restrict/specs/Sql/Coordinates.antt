-- Linear temporal numbers: the coordinates of a moving point.
use Rattle.std.specs.Prelude.{◌≡◌, option_map}
use Rattle.mob_ratio.specs.Ratio.{Ratio}
use Rattle.mob_plane.specs.declared.point.Point.{Point}
use Rattle.mob_slice.specs.CourseOf.{line_course}
use Rattle.mob_value.{specs.declared.value.Value.{Value}, specs.declared.value.Value.TheVariants.{Null, MovingFrac, MovingPoint}, specs.Moving.{IsFunction, plane_function}}

-- v has at each instant this coordinate of a moving point
abbrev pub IsCoordinate : (Point → Ratio) → Value → Value → Type 0
IsCoordinate coordinate (MovingPoint a) v = IsFunction line_course MovingFrac (λ t. option_map coordinate (plane_function a t)) v
IsCoordinate coordinate _ v = v ≡ Null

-- getX and getY
abbrev pub IsEast : Value → Value → Type 0
IsEast a v = IsCoordinate (λ p. p.x) a v

abbrev pub IsNorth : Value → Value → Type 0
IsNorth a v = IsCoordinate (λ p. p.y) a v
