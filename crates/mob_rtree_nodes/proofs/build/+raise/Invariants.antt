use Rattle.std.proofs.Common.{length}
use Rattle.mob_rtree_nodes.proofs.build.+raise.Given as goal

abbrev pub decreases-raise : goal.decreases-raise
decreases-raise l = length l.kids.now
