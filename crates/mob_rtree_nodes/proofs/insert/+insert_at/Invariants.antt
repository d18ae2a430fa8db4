use Rattle.mob_rtree_nodes.specs.Tree.{height_at}
use Rattle.mob_rtree_nodes.proofs.insert.+insert_at.Given as goal

abbrev pub decreases-insert_at : goal.decreases-insert_at
decreases-insert_at l = height_at l.nodes.now.items l.node
