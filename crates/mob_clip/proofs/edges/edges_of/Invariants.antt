use Rattle.std.proofs.Common.{◌≡◌, ◌++◌, drop}
use Rattle.mob_plane.specs.Rings.{rings_of, all_edges}
use Rattle.mob_clip.proofs.edges.edges_of.Given as goal

abbrev pub invariant-loop-ring : goal.invariant-loop-ring
invariant-loop-ring l = l.out.items ++ all_edges (rings_of (drop l.ring-index l.rings)) ≡ all_edges (rings_of l.rings)
