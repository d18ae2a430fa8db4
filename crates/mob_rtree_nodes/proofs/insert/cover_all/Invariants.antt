use Rattle.std.{specs.Prelude.{All}, proofs.Common.{◌≡◌, true, take}}
use Rattle.mob_stbox.specs.Boxes.{contains, is_whole}
use Rattle.mob_rtree_nodes.specs.Tree.{IsLeastOver}
use Rattle.mob_rtree_nodes.proofs.insert.cover_all.Given as goal

abbrev pub invariant-loop-kid : goal.invariant-loop-kid
invariant-loop-kid l = IsLeastOver l.area l.kids × (is_whole l.area ≡ true) × All (λ k. contains l.area k.0 ≡ true) (take l.kid-index l.kids)
