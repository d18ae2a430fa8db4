use Rattle.std.proofs.Common.{drop}
use Rattle.mob_clip.proofs.Knowing.{IsKnowing}
use Rattle.mob_clip.proofs.membership.each_edge.Given as goal

abbrev pub invariant-loop-edge : goal.invariant-loop-edge
invariant-loop-edge l = IsKnowing l.span l.edges (drop l.edge-index l.edges) l.out.items
