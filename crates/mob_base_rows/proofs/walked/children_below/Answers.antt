use Rattle.std.proofs.Common.{◌≡◌, ◌∙◌, sym, ap, subst, get_or}
use Rattle.mob_rtree_nodes.{specs.Tree.{Kid}, specs.Reach.{is_root, is_child, children}}
use Rattle.mob_base_rows.proofs.walked.children_below.Goals as goal

pub children-requires : goal.children-requires
children-requires c = record { reached = (0, is_root (sym c.in-Some.ensures.is)) }

pub children-requires-in-Node : goal.children-requires-in-Node
children-requires-in-Node c =
    let k : Kid = c.index-children-0.result in
    let e = c.children.ensures.children in
    let at = c.index-children-0.is ∙ ap (λ l. get_or l 0 k) e in
    let n = ap (λ t. (k.0, t)) c.in-Node.is in
    record { reached = (1, is_child {i = 0} {b = k.0} (is_root (sym c.in-Some.ensures.is)) c.children.ensures.spread.some (subst (λ (x : Kid). x ≡ get_or (children c.args.tree.now.nodes c.in-Some.root) 0 x) n at)) }
