use Rattle.std.{specs.Prelude.{All}, proofs.Common.{◌≡◌, subst}}
use Rattle.mob_rtree.{specs.Shape.{Shape, HasLeastBox, boxes_of}, proofs.Shapes.{boxes_least, areas_are}}
use Rattle.mob_rtree_nodes.{specs.Tree.{ref}, specs.Reach.{HaveOneDepth}, proofs.Reaches.{leaves_level}}
use Rattle.mob_rtree.proofs.tree.RTree.has_root.Goals as goal

pub returns-clause-areas : goal.returns-clause-areas
returns-clause-areas c = subst (λ (s : Shape). s.areas ≡ boxes_of s.nodes) c.self.view_is (areas_are c.self.inside.nodes.items)

pub returns-clause-least : goal.returns-clause-least
returns-clause-least c = subst (λ (s : Shape). All HasLeastBox s.nodes) c.self.view_is (boxes_least (ref c.self.inside.root) c.self.inside.nodes.items c.self.invariant.0)

pub returns-clause-depth : goal.returns-clause-depth
returns-clause-depth c = subst (λ (s : Shape). HaveOneDepth s.nodes s.root) c.self.view_is (leaves_level (ref c.self.inside.root) c.self.inside.nodes.items c.self.invariant.0)
