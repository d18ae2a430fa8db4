use Rattle.std.proofs.Common.{◌≡◌, fold, take}
use Rattle.mob_plane.specs.Corners.{widened}
use Rattle.mob_plane.proofs.rectangle.over_ring.Given as goal

abbrev pub invariant-loop-p : goal.invariant-loop-p
invariant-loop-p l = l.corners ≡ fold widened l.first (take l.p-index l.ring)
