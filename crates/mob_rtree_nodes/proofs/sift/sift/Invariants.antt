use Rattle.std.{specs.Prelude.{All}, specs.Vec.{vec_capacity}, proofs.Common.{◌≡◌, ◌≤◌}}
use Rattle.mob_rtree_nodes.{specs.Tree.{IsSoundNode, IsTree, Ref}, specs.Sifts.{IsSiftedUpTo}}
use Rattle.mob_rtree_nodes.proofs.sift.sift.Given as goal

abbrev pub invariant-loop-height : goal.invariant-loop-height
invariant-loop-height l = All IsSoundNode l.nodes.items × (l.height ≤ l.top) × (vec_capacity l.nodes ≡ vec_capacity l.initial.nodes)
    × ((root : Ref) → IsTree root l.initial.nodes.items → IsSiftedUpTo l.ids l.initial.nodes.items l.height 0 l.nodes.items)
