-- The smallest and the greatest coordinates of points.
use Rattle.std.{specs.Prelude.{◌≡◌, true, List, Any, All}, specs.List.{flat_map}}
use Rattle.mob_ratio.{specs.Ratio.{Ratio}, specs.Order.{up_to, smaller, greater}}
use Rattle.mob_plane.{specs.declared.point.Point.{Point}, specs.declared.rectangle.Corners.{Corners}}

-- the points of all rings
abbrev pub all_points : List (List Point) → List Point
all_points rings = flat_map (λ r. r) rings

-- x is the smallest of the coordinates: some point has it, and none has a smaller one
pub record IsLeastAmong (coordinate : Point → Ratio) (points : List Point) (x : Ratio) : Type 0 where
  pub some : Any (λ p. coordinate p ≡ x) points
  pub none_less : All (λ p. up_to x (coordinate p) ≡ true) points

-- x is the greatest of the coordinates
pub record IsGreatestAmong (coordinate : Point → Ratio) (points : List Point) (x : Ratio) : Type 0 where
  pub some : Any (λ p. coordinate p ≡ x) points
  pub none_greater : All (λ p. up_to (coordinate p) x ≡ true) points

-- the corners of the bounding box of the points
pub record AreCorners (points : List Point) (least greatest : Point) : Type 0 where
  pub least_x : IsLeastAmong (λ p. p.x) points least.x
  pub least_y : IsLeastAmong (λ p. p.y) points least.y
  pub greatest_x : IsGreatestAmong (λ p. p.x) points greatest.x
  pub greatest_y : IsGreatestAmong (λ p. p.y) points greatest.y

-- the corners of the smallest rectangle that contains another one and a point
abbrev pub widened : Corners → Point → Corners
widened c p = record {
  least = record { x = smaller c.least.x p.x; y = smaller c.least.y p.y };
  greatest = record { x = greater c.greatest.x p.x; y = greater c.greatest.y p.y };
}
