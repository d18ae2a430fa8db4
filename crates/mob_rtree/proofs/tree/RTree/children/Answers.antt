use Rattle.std.proofs.Common.{◌∙◌, ap, sym, subst, arith}
use Rattle.mob_rtree.specs.Shape.{Shape}
use Rattle.mob_rtree_nodes.{specs.Tree.{ref}, specs.Reach.{IsReachedNode, IsSpread, children}, proofs.Sums.{kids_of}, proofs.Reaches.{reached_inside, children_is}}
use Rattle.mob_rtree.proofs.tree.RTree.children.Goals as goal

pub index-requires : goal.index-requires
index-requires c =
    let r = reached_inside (ref c.self.inside.root) c.self.inside.nodes.items c.self.invariant.0 c.args.node (subst (λ (s : Shape). IsReachedNode s.nodes s.root c.args.node) (sym c.self.view_is) c.requires.reached) in
    omega (arith, r.0, c.self.inside.nodes.ok.0)

pub returns-clause-children : goal.returns-clause-children
returns-clause-children c =
    let r = reached_inside (ref c.self.inside.root) c.self.inside.nodes.items c.self.invariant.0 c.args.node (subst (λ (s : Shape). IsReachedNode s.nodes s.root c.args.node) (sym c.self.view_is) c.requires.reached) in
    c.as_slice.ensures.value ∙ sym (kids_of c.self.inside.nodes.items c.args.node c.index.result.now r.0 c.index.ensures) ∙ sym (children_is c.self.inside.nodes.items c.args.node) ∙ ap (λ (s : Shape). children s.nodes c.args.node) c.self.view_is

pub returns-clause-spread : goal.returns-clause-spread
returns-clause-spread c =
    let r = reached_inside (ref c.self.inside.root) c.self.inside.nodes.items c.self.invariant.0 c.args.node (subst (λ (s : Shape). IsReachedNode s.nodes s.root c.args.node) (sym c.self.view_is) c.requires.reached) in
    subst (λ (s : Shape). IsSpread s.nodes c.args.node) c.self.view_is r.1
