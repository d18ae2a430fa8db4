use Rattle.std.proofs.Common.{◌≡◌, ◌++◌, List, drop}
use Rattle.mob_typed.specs.Trees.{TypedTree, typed_of}
use Rattle.mob_eval.{specs.SoFar.{trees}, specs.Remembered.{AreNodes, nodes_at, all_nodes_at}}
use Rattle.mob_eval.proofs.memory.chosen.+nodes_of.Given as goal

abbrev pub invariant-loop-arg : goal.invariant-loop-arg
invariant-loop-arg l = (ys : List TypedTree) × AreNodes l.found ys × (nodes_at l.at (typed_of l.e) ≡ ys ++ all_nodes_at l.at (trees (drop l.arg-index l.arg-items)))
