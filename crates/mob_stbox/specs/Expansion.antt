-- Boxes expanded or shrunk in space.
use Rattle.std.specs.Prelude.{cond, List, [], Option, Some, None}
use Rattle.mob_ratio.specs.Ratio.{Ratio, ◌+ℚ◌, ◌-ℚ◌, ◌≤ℚ◌}
use Rattle.mob_frac.specs.Formula.{expansion_parts}
use Rattle.mob_span.specs.Span.{SpanOf}
use Rattle.mob_plane.specs.declared.point.Point.{Point}
use Rattle.mob_stbox.{specs.Areas.{is_area}, specs.Boxes.{BoxOf}, specs.declared.area.Area.{Area}}

-- each side of the area moved outward by d, which is inward if d is below 0
abbrev pub moved_area : Area → Ratio → Area
moved_area a d = record { xmin = a.xmin -ℚ d; xmax = a.xmax +ℚ d; ymin = a.ymin -ℚ d; ymax = a.ymax +ℚ d }

-- the box with this area and this time, if no smallest coordinate is above its greatest
abbrev pub box_over : Area → Option SpanOf → Option BoxOf
box_over a time = cond (is_area a) (Some (record { space = Some a; time = time })) None

-- The box with its area moved by d, and its time unchanged. It is None if the box has no space, and
-- if no area is left.
abbrev pub moved_space : Option Area → Option SpanOf → Ratio → Option BoxOf
moved_space None time d = None
moved_space (Some a) time d = box_over (moved_area a d) time

abbrev pub expanded : BoxOf → Ratio → Option BoxOf
expanded b d = moved_space b.space b.time d

-- the parts of the formula F7, if the box has space
abbrev pub parts_of_space : Option Area → Ratio → List Ratio
parts_of_space None d = []
parts_of_space (Some a) d = expansion_parts a.xmin a.xmax a.ymin a.ymax d

abbrev pub parts_of_expansion : BoxOf → Ratio → List Ratio
parts_of_expansion b d = parts_of_space b.space d

-- the points p and q are at most d apart in each coordinate
pub record AreWithin (p q : Point) (d : Ratio) : Type 0 where
  pub from_west : q.x -ℚ d ≤ℚ p.x
  pub to_east : p.x ≤ℚ q.x +ℚ d
  pub from_south : q.y -ℚ d ≤ℚ p.y
  pub to_north : p.y ≤ℚ q.y +ℚ d
