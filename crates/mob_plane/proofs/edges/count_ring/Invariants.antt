use Rattle.std.proofs.Common.{length, drop, ◌-◌, ◌<◌}
use Rattle.mob_plane.{specs.Rings.{edges}, proofs.Counts.{IsCounting}}
use Rattle.mob_plane.proofs.edges.count_ring.Given as goal

abbrev pub invariant-loop-i : goal.invariant-loop-i
invariant-loop-i l = record {
  start : 0 < l.i;
  counting : IsCounting l.p (edges l.ring) (edges (drop (l.i - 1) l.ring)) l.fn.first l.tally;
}

abbrev pub decreases-loop-i : goal.decreases-loop-i
decreases-loop-i l = length l.ring - l.i
