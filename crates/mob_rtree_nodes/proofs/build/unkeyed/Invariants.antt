use Rattle.std.proofs.Common.{◌≡◌, map, take}
use Rattle.mob_rtree_nodes.proofs.build.unkeyed.Given as goal

abbrev pub invariant-loop-pair : goal.invariant-loop-pair
invariant-loop-pair l = l.kids.items ≡ map (λ p. p.1) (take l.pair-index l.pairs)
