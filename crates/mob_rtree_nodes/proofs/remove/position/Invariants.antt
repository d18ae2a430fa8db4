use Rattle.std.{specs.Prelude.{count_by}, proofs.Common.{◌≡◌, take}}
use Rattle.mob_rtree_nodes.specs.Removes.{is_entry}
use Rattle.mob_rtree_nodes.proofs.remove.position.Given as goal

abbrev pub invariant-loop-slot : goal.invariant-loop-slot
invariant-loop-slot l = count_by (is_entry l.b l.id) (take l.slot l.kids) ≡ 0
