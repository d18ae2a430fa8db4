use Rattle.std.proofs.Common.{◌≡◌, ◌++◌, drop, map}
use Rattle.mob_restrict.specs.Coordinates.{coordinate_line}
use Rattle.mob_restrict.proofs.coordinates.coordinate.Given as goal

abbrev pub invariant-loop-slice : goal.invariant-loop-slice
invariant-loop-slice l = l.lines.items ++ map (coordinate_line l.axis) (drop l.slice-index l.slices) ≡ map (coordinate_line l.axis) l.slices
