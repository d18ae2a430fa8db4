-- Results at the end of a piece of time, kept for the piece that begins there.
use Rattle.std.specs.Prelude.{◌≡◌}
use Rattle.mob_ratio.specs.Ratio.{Ratio, ◌-ℚ◌}
use Rattle.mob_frac.specs.Formula.{AllFit, square_parts}
use Rattle.mob_plane.specs.declared.point.Point.{Point}
use Rattle.mob_slice.{specs.Comparison.{gap_parts}, specs.LineComparison.{point_gaps}}
use Rattle.mob_legs.specs.Legs.{length_squared}

-- the difference of two points, to the east and to the north
pub record ApartOf : Type 0 where
  pub left : Point
  pub right : Point
  pub x : Ratio
  pub y : Ratio

-- they are the differences, and each fits
abbrev pub IsDifference : ApartOf → Type 0
IsDifference a = (a.x ≡ a.left.x -ℚ a.right.x) × (a.y ≡ a.left.y -ℚ a.right.y) × AllFit (gap_parts (point_gaps a.left a.right))

-- the squared length of a vector
pub record SquaredOf : Type 0 where
  pub x : Ratio
  pub y : Ratio
  pub square : Ratio

-- it is the squared length, and each part of its formula fits
abbrev pub IsSquareOf : SquaredOf → Type 0
IsSquareOf s = (s.square ≡ length_squared s.x s.y) × AllFit (square_parts s.x s.y)
