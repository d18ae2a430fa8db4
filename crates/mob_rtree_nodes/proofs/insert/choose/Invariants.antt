use Rattle.std.proofs.Common.{◌<◌, length}
use Rattle.mob_rtree_nodes.proofs.insert.choose.Given as goal

abbrev pub invariant-loop-i : goal.invariant-loop-i
invariant-loop-i l = l.best < length l.kids
