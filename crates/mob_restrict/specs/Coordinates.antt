-- The coordinates of a moving point, as numbers that change linearly.
use Rattle.mob_ratio.specs.Ratio.{Ratio}
use Rattle.mob_plane.specs.declared.point.Point.{Point}
use Rattle.mob_slice.{specs.declared.line.Line.{Line}, specs.declared.line.PlaneLine.{PlaneLine}, specs.declared.slice.Slice.{Slice}}
use Rattle.mob_restrict.{specs.declared.coordinates.Axis.{Axis}, specs.declared.coordinates.Axis.TheVariants.{X, Y}}

-- the coordinate of a point on that axis
abbrev pub coordinate_of : Axis → Point → Ratio
coordinate_of X p = p.x
coordinate_of Y p = p.y

-- the slice on the same span from one coordinate to the other
abbrev pub coordinate_line : Axis → Slice PlaneLine → Slice Line
coordinate_line axis s = record { span = s.span; course = record { from = coordinate_of axis s.course.from; to = coordinate_of axis s.course.to } }
