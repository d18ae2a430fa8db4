use Rattle.std.proofs.Common.{◌≡◌, ◌++◌, ◌<◌, ◌-◌, drop, length}
use Rattle.mob_plane.specs.Rings.{edges}
use Rattle.mob_clip.proofs.edges.push_edges.Given as goal

abbrev pub invariant-loop-i : goal.invariant-loop-i
invariant-loop-i l = record {
  begun : 0 < l.i;
  made : l.out.items ++ edges (drop (l.i - 1) l.ring) ≡ l.initial.out.items ++ edges l.ring;
}

abbrev pub decreases-loop-i : goal.decreases-loop-i
decreases-loop-i l = length l.ring - l.i
