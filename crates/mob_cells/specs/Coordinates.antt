-- The coordinates of values, as gaps to 0: none of a step, one of a number, two of a point.
use Rattle.std.specs.Prelude.{◌≡◌, refl}
use Rattle.mob_ratio.specs.Ratio.{Ratio, ◌-ℚ◌}
use Rattle.mob_plane.specs.declared.point.Point.{Point}
use Rattle.mob_slice.{specs.LineComparison.{number_gaps, point_gaps}, specs.declared.comparison.Gaps.{Gaps}, specs.declared.comparison.Gaps.TheVariants.{Constant, One, Two}}
use Rattle.mob_cells.{specs.declared.coordinates.Coordinates.{Coordinates}, specs.declared.coordinates.Coordinates.TheVariants.{Steady, One as OneOf, Two as TwoOf}}

abbrev pub as_gaps : Coordinates → Gaps
as_gaps Steady = Constant
as_gaps (OneOf x) = One x
as_gaps (TwoOf x y) = Two x y

-- the differences, coordinate by coordinate
abbrev pub apart_of : Gaps → Gaps → Gaps
apart_of (One x) (One y) = One (x -ℚ y)
apart_of (Two x y) (Two z w) = Two (x -ℚ z) (y -ℚ w)
apart_of a b = Constant

-- the gaps of two values are the differences of their coordinates
abbrev pub AreCoordinates : {B : Type 0} → (B → B → Gaps) → (B → Gaps) → Type 0
AreCoordinates {B} gaps coordinates = (x y : B) → gaps x y ≡ apart_of (coordinates x) (coordinates y)

abbrev pub number_coordinates : Ratio → Gaps
number_coordinates x = One x

abbrev pub point_coordinates : Point → Gaps
point_coordinates p = Two p.x p.y

pub steps_apart : {B : Type 0} → AreCoordinates {B = B} (λ a b. Constant) (λ x. Constant)
steps_apart x y = refl

pub numbers_apart : AreCoordinates number_gaps number_coordinates
numbers_apart x y = refl

pub points_apart : AreCoordinates point_gaps point_coordinates
points_apart p q = refl
