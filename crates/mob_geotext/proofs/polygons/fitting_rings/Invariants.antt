use Rattle.std.proofs.Common.{◌≡◌, drop}
use Rattle.mob_plane.specs.Rings.{rings_of}
use Rattle.mob_scalar.proofs.Traversed.{with_list}
use Rattle.mob_geotext.specs.Polygons.{rings_said}
use Rattle.mob_geotext.proofs.polygons.fitting_rings.Given as goal

abbrev pub invariant-loop-ring : goal.invariant-loop-ring
invariant-loop-ring l = with_list (rings_of l.fitting.items) (rings_said (drop l.ring-index l.rings)) ≡ rings_said l.rings
