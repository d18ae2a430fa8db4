use Rattle.std.proofs.Common.{◌≡◌, ◌+◌, length, take, flat_map}
use Rattle.mob_geotext.proofs.polygons.has_many_points.Given as goal

-- how many more points are allowed
abbrev pub invariant-loop-ring : goal.invariant-loop-ring
invariant-loop-ring l = l.left + length (flat_map (λ r. r) (take l.ring-index l.rings)) ≡ 1000
