use Rattle.std.proofs.Common.{◌≡◌, take}
use Rattle.mob_plane.specs.Rings.{rings_of}
use Rattle.mob_plane.proofs.polygons.Polygon.copy.Given as goal

abbrev pub invariant-loop-ring : goal.invariant-loop-ring
invariant-loop-ring l = rings_of l.copies.items ≡ rings_of (take l.ring-index l.ring-items)
