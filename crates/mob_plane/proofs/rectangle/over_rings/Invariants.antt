use Rattle.std.proofs.Common.{◌≡◌, fold, drop}
use Rattle.mob_plane.{specs.Rings.{rings_of}, specs.Corners.{widened, all_points}}
use Rattle.mob_plane.proofs.rectangle.over_rings.Given as goal

abbrev pub invariant-loop-ring : goal.invariant-loop-ring
invariant-loop-ring l = fold widened l.corners (all_points (rings_of (drop l.ring-index l.rings))) ≡ fold widened l.first (all_points (rings_of l.rings))
