use Rattle.std.proofs.Common.{◌≡◌, map, take}
use Rattle.mob_rtree_nodes.specs.Builds.{kid_of}
use Rattle.mob_rtree_nodes.proofs.build.leaf_kids.Given as goal

abbrev pub invariant-loop-entry : goal.invariant-loop-entry
invariant-loop-entry l = l.kids.items ≡ map kid_of (take l.entry-index l.entries)
