-- Closed rectangles of the plane.
use Rattle.std.specs.Prelude.{Bool, ◌&&◌}
use Rattle.mob_ratio.{specs.Ratio.{◌≤ℚ◌}, specs.Order.{up_to, same, smaller, greater}}
use Rattle.mob_plane.specs.declared.point.Point.{Point}
use Rattle.mob_stbox.specs.declared.area.Area.{Area}

-- The point p lies in the area a: each of its coordinates is at least the smallest and at most the
-- greatest coordinate of a.
pub record InArea (a : Area) (p : Point) : Type 0 where
  pub from_west : a.xmin ≤ℚ p.x
  pub to_east : p.x ≤ℚ a.xmax
  pub from_south : a.ymin ≤ℚ p.y
  pub to_north : p.y ≤ℚ a.ymax

-- InArea as a test that computes
abbrev pub in_area : Area → Point → Bool
in_area a p = up_to a.xmin p.x && up_to p.x a.xmax && (up_to a.ymin p.y && up_to p.y a.ymax)

-- no smallest coordinate is above its greatest, so some point lies in the area
abbrev pub is_area : Area → Bool
is_area a = up_to a.xmin a.xmax && up_to a.ymin a.ymax

-- two areas share a point: on each axis, neither lies wholly on one side of the other
abbrev pub areas_meet : Area → Area → Bool
areas_meet a b = up_to a.xmin b.xmax && up_to b.xmin a.xmax && (up_to a.ymin b.ymax && up_to b.ymin a.ymax)

-- b lies in a
abbrev pub area_over : Area → Area → Bool
area_over a b = up_to a.xmin b.xmin && up_to b.xmax a.xmax && (up_to a.ymin b.ymin && up_to b.ymax a.ymax)

-- the smallest area that contains both
abbrev pub area_cover : Area → Area → Area
area_cover a b = record { xmin = smaller a.xmin b.xmin; xmax = greater a.xmax b.xmax; ymin = smaller a.ymin b.ymin; ymax = greater a.ymax b.ymax }

-- the bounding box of two points, which are opposite corners of it
abbrev pub area_between : Point → Point → Area
area_between p q = record { xmin = smaller p.x q.x; xmax = greater p.x q.x; ymin = smaller p.y q.y; ymax = greater p.y q.y }

-- both points lie in the area, and each area that contains both contains all of it
pub record IsAreaOver (p q : Point) (a : Area) : Type 0 where
  pub first : InArea a p
  pub second : InArea a q
  pub least : (b : Area) → InArea b p → InArea b q → (r : Point) → InArea a r → InArea b r

-- the two have the same sides
abbrev pub same_area : Area → Area → Bool
same_area a b = same a.xmin b.xmin && same a.xmax b.xmax && (same a.ymin b.ymin && same a.ymax b.ymax)
