use Rattle.std.{specs.Prelude.{All}, specs.Vec.{vec_capacity}, proofs.Common.{◌≡◌, List, length}}
use Rattle.mob_rtree_nodes.{specs.Tree.{IsSoundNode, IsTree, Ref}, specs.Sifts.{IsSiftedUpTo}, specs.declared.node.TreeNode.{TreeNode}}
use Rattle.mob_rtree_nodes.proofs.sift.sift_level.Given as goal

abbrev pub invariant-loop-node : goal.invariant-loop-node
invariant-loop-node l = All IsSoundNode l.nodes.items × (length l.nodes.items ≡ length l.initial.nodes.items) × (vec_capacity l.nodes ≡ vec_capacity l.initial.nodes)
    × ((root : Ref) → (old : List TreeNode) → IsTree root old → IsSiftedUpTo l.ids old l.height 0 l.initial.nodes.items → IsSiftedUpTo l.ids old l.height l.node l.nodes.items)
