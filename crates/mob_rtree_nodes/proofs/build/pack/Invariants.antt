use Rattle.std.proofs.Common.{◌≡◌, take, ◌+◌, ◌*◌, ◌<◌, length}
use Rattle.mob_rtree_nodes.specs.Builds.{IsPacking}
use Rattle.mob_rtree_nodes.proofs.build.pack.Given as goal

abbrev pub invariant-loop-kid : goal.invariant-loop-kid
invariant-loop-kid l =
    IsPacking l.height l.initial.nodes.items (take l.kid-index l.kids) l.nodes.items l.above.items l.waiting.items
    × (16 * length l.above.items + length l.waiting.items ≡ l.kid-index)
    × (0 < l.kid-index → 0 < length l.waiting.items)
