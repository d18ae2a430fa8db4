use Rattle.std.proofs.Common.{◌≡◌, ◌++◌, List, drop, map}
use Rattle.mob_typed.specs.Trees.{TypedTree, typed_trees}
use Rattle.mob_eval.specs.Remembered.{AreNodes, all_nodes_at, root_seen}
use Rattle.mob_eval.proofs.memory.chosen.nodes_of_all.Given as goal

abbrev pub invariant-loop-root : goal.invariant-loop-root
invariant-loop-root l =
    (ys : List TypedTree) × AreNodes l.found ys
    × (all_nodes_at l.at (typed_trees (map root_seen l.roots)) ≡ ys ++ all_nodes_at l.at (typed_trees (map root_seen (drop l.root-index l.roots))))
