use Rattle.std.proofs.Common.{◌∙◌, sym, subst, arith, ◌<◌, length}
use Rattle.mob_rtree.specs.Shape.{Shape}
use Rattle.mob_rtree_nodes.{specs.Tree.{ref, AreSame}, specs.Reach.{entries_under}, proofs.Covers.{some_left}, proofs.Reaches.{root_gathers, some_entry}}
use Rattle.mob_rtree.proofs.tree.RTree.root.Goals as goal

pub returns-clause-none : goal.returns-clause-none
returns-clause-none c =
    let n = some_left _ (sym c.is_empty.ensures ∙ c.if-is_empty.false) in
    let tree = c.self.invariant.0 (omega (arith, n, c.self.inside.nodes.ok.0)) in
    subst (λ (s : Shape). 0 < length s.entries) c.self.view_is (some_entry (ref c.self.inside.root) c.self.inside.nodes.items tree)

pub returns-clause-under : goal.returns-clause-under
returns-clause-under c =
    let n = some_left _ (sym c.is_empty.ensures ∙ c.if-is_empty.false) in
    let tree = c.self.invariant.0 (omega (arith, n, c.self.inside.nodes.ok.0)) in
    subst (λ (s : Shape). AreSame (entries_under s.nodes c.self.inside.root.node) s.entries) c.self.view_is (root_gathers (ref c.self.inside.root) c.self.inside.nodes.items tree)
