-- The position, relative to edges, of a point on the segment from p to q.
use Rattle.std.specs.Prelude.{◌≡◌, List, [], ◌∷◌, ◌++◌}
use Rattle.mob_ratio.specs.Ratio.{Ratio, ◌-ℚ◌, ◌*ℚ◌}
use Rattle.mob_frac.specs.Formula.{AllFit}
use Rattle.mob_plane.{specs.declared.point.Point.{Point}, specs.Turns.{turn, turn_parts}}
use Rattle.mob_cells.specs.declared.linear.Ends.{Ends}
use Rattle.mob_clip.{specs.declared.sides.ToPoint.{ToPoint}, specs.declared.sides.BesideEdge.{BesideEdge}, specs.declared.sides.EdgeEnds.{EdgeEnds}}

-- the differences to the point v, by coordinate, and their parts of F2
abbrev pub to_point : Point → Point → Point → ToPoint
to_point p q v = record { x = record { at_lower = p.x -ℚ v.x; at_upper = q.x -ℚ v.x }; y = record { at_lower = p.y -ℚ v.y; at_upper = q.y -ℚ v.y } }

abbrev pub point_parts : Point → Point → Point → List Ratio
point_parts p q v = (p.x -ℚ v.x) ∷ (q.x -ℚ v.x) ∷ (p.y -ℚ v.y) ∷ (q.y -ℚ v.y) ∷ []

-- an edge with the differences to its two ends
abbrev pub beside : Point → Point → Point × Point → BesideEdge
beside p q e = record { edge = e; to_a = to_point p q e.0; to_b = to_point p q e.1 }

abbrev pub beside_parts : Point → Point → Point × Point → List Ratio
beside_parts p q e = point_parts p q e.0 ++ point_parts p q e.1

-- the differences to the first end of the edge are those of the segment from p to q, and fit
abbrev pub IsBeside : Point → Point → BesideEdge → Type 0
IsBeside p q b = (b.to_a ≡ to_point p q b.edge.0) × AllFit (point_parts p q b.edge.0)

-- the cross product of two vectors, and its parts of F4
abbrev pub turned_by : Ratio → Ratio → Ratio → Ratio → Ratio
turned_by along rise across up = along *ℚ up -ℚ rise *ℚ across

abbrev pub turned_parts : Ratio → Ratio → Ratio → Ratio → List Ratio
turned_parts along rise across up = (along *ℚ up) ∷ (rise *ℚ across) ∷ (along *ℚ up -ℚ rise *ℚ across) ∷ []

-- the turns from an edge, and their parts of F4
abbrev pub turning : Point → Point → Point × Point → Ends
turning p q e = record { at_lower = turn e.0 e.1 p; at_upper = turn e.0 e.1 q }

abbrev pub turning_parts : Point → Point → Point × Point → List Ratio
turning_parts p q e = turn_parts e.0 e.1 p ++ turn_parts e.0 e.1 q

-- all functions of an edge
abbrev pub with_turn : Point → Point → BesideEdge → EdgeEnds
with_turn p q b = record { turn = turning p q b.edge; x_a = b.to_a.x; x_b = b.to_b.x; y_a = b.to_a.y; y_b = b.to_b.y }
