-- Differences in numbers of any size, as the definitions have them.
use Rattle.std.specs.Prelude.{◌≡◌, Option}
use Rattle.mob_ratio.specs.Ratio.{Ratio, ◌+ℚ◌, ◌-ℚ◌, ◌*ℚ◌}
use Rattle.mob_plane.specs.declared.point.Point.{Point}
use Rattle.mob_legs.{specs.Legs.{foot_of, foot_square, squares_of}, specs.declared.legs.Leg.{Leg}, specs.declared.legs.Squares.{Squares}, specs.declared.legs.Foot.{Foot}}
use Rattle.mob_legs.{specs.declared.broad.leg.Spot.{Spot}, specs.declared.broad.leg.BroadLeg.{BroadLeg}, specs.declared.broad.foot.BroadWay.{BroadWay}, specs.declared.broad.foot.BroadFoot.{BroadFoot}}

abbrev pub as_point : Spot → Point
as_point s = record { x = s.x; y = s.y }

abbrev pub as_leg : BroadLeg → Leg
as_leg g = record { x0 = g.x0; y0 = g.y0; x1 = g.x1; y1 = g.y1 }

abbrev pub as_foot : BroadFoot → Foot
as_foot f = record { length = f.way.length; along = f.way.along; beyond = f.way.beyond; across = f.across }

-- the difference of two points
abbrev pub IsGapAt : Point → Point → Spot → Type 0
IsGapAt p q s = (s.x ≡ p.x -ℚ q.x) × (s.y ≡ p.y -ℚ q.y)

-- the vector of a segment, and the numbers along it
abbrev pub IsVectorOf : Leg → Spot → Type 0
IsVectorOf g s = (s.x ≡ g.x1 -ℚ g.x0) × (s.y ≡ g.y1 -ℚ g.y0)

abbrev pub IsWayOf : Leg → BroadWay → Type 0
IsWayOf g w = (w.length ≡ (foot_of g).length) × (w.along ≡ (foot_of g).along) × (w.beyond ≡ (foot_of g).beyond)

-- the squared length of the nearest point
abbrev pub IsSquareBetween : Foot → Option Ratio → Type 0
IsSquareBetween f between = between ≡ foot_square f
