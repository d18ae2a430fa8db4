use Rattle.std.proofs.Common.{subst, map}
use Rattle.mob_rtree.{specs.Shape.{Shape, AreUsedAgain}, proofs.Shapes.{used_again}}
use Rattle.mob_rtree_nodes.specs.Reach.{branch_of}
use Rattle.mob_rtree.proofs.tree.RTree.add_entry.Goals as goal

pub returns-clause-again : goal.returns-clause-again
returns-clause-again c =
    let new = c.put_any-self-inside.new.nodes.items in
    subst (λ (s : Shape). AreUsedAgain s.nodes (map branch_of new)) c.self.view_is (used_again c.self.inside.nodes.items new c.put_any-self-inside.ensures.reused)
