use Rattle.std.{specs.List.{filter_map}, proofs.Common.{◌≡◌, ◌≤◌, take}}
use Rattle.arrayvec.specs.ArrayVec.{array_vec_len}
use Rattle.mob_rtree_nodes.specs.Sifts.{left_kid}
use Rattle.mob_rtree_nodes.proofs.sift.kids_after.Given as goal

abbrev pub invariant-loop-kid : goal.invariant-loop-kid
invariant-loop-kid l = (l.left.items ≡ filter_map (left_kid l.ids l.nodes l.part.height) (take l.kid-index l.part.kids.items)) × (array_vec_len l.left ≤ l.kid-index)
