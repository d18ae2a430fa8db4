use Rattle.std.proofs.Common.{◌≡◌, map, take}
use Rattle.mob_rtree_nodes.proofs.build.keyed.Given as goal

abbrev pub invariant-loop-i : goal.invariant-loop-i
invariant-loop-i l = map (λ p. p.1) l.pairs.items ≡ take l.i l.kids
