use Rattle.std.proofs.Common.{length, drop, ◌≤◌, ◌+◌, ◌-◌}
use Rattle.mob_clip.proofs.Walks.{IsMerging}
use Rattle.mob_clip.proofs.timeline.merged.Given as goal

abbrev pub invariant-loop-i : goal.invariant-loop-i
invariant-loop-i g l = record {
  first : l.i ≤ length l.xs;
  second : l.j ≤ length l.ys;
  merging : IsMerging g.T.Mix.mix l.a.first l.b.first l.xs l.ys l.left l.right (drop l.i l.xs) (drop l.j l.ys) l.changes.items;
}

abbrev pub decreases-loop-i : goal.decreases-loop-i
decreases-loop-i g l = length l.xs + length l.ys - (l.i + l.j)
