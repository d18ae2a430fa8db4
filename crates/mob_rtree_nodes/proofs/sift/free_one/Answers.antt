use Rattle.std.{proofs.Common.{◌∙◌, ap, sym, arith, List, get_or, length}, proofs.lemmas.List.{get_or_default}}
use Rattle.mob_rtree_nodes.{specs.Tree.{Kid, kids_at}, proofs.Sums.{kids_of}, proofs.Covers.{none_left, some_left}, proofs.Frees.{none_freed, one_freed}}
use Rattle.mob_rtree_nodes.proofs.sift.free_one.Goals as goal

pub returns-then-is_empty-clause-numbered : goal.returns-then-is_empty-clause-numbered
returns-then-is_empty-clause-numbered c f =
    let part = get_or c.args.nodes.now c.args.node c.index-nodes-node.result in
    let kids = kids_of c.args.nodes.now c.args.node part c.requires.there (get_or_default c.args.nodes.now c.args.node c.index-nodes-node.result part c.requires.there) in
    one_freed f (kids_at c.args.nodes.now c.args.node) c.args.node c.args.free.now.items c.push_reserved.new.self.items (ap (λ (l : List Kid). length l) kids ∙ none_left (length part.kids.items) (sym c.is_empty.ensures ∙ c.if-is_empty.true)) c.push_reserved.ensures.items

pub returns-else-is_empty-clause-numbered : goal.returns-else-is_empty-clause-numbered
returns-else-is_empty-clause-numbered c f =
    let part = get_or c.args.nodes.now c.args.node c.index-nodes-node.result in
    let kids = kids_of c.args.nodes.now c.args.node part c.requires.there (get_or_default c.args.nodes.now c.args.node c.index-nodes-node.result part c.requires.there) in
    let live = some_left (length part.kids.items) (sym c.is_empty.ensures ∙ c.if-is_empty.false) in
    none_freed f (kids_at c.args.nodes.now c.args.node) c.args.node c.args.free.now.items (omega (arith, live, ap (λ (l : List Kid). length l) kids))
