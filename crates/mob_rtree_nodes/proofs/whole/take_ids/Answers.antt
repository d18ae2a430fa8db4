use Rattle.std.proofs.Common.{◌∙◌, sym, arith, length}
use Rattle.mob_rtree_nodes.{specs.Tree.{ref}, proofs.Covers.{none_left, some_left}, proofs.Roots.{root_there}, proofs.Sifts.{tree_gone, tree_left}}
use Rattle.mob_rtree_nodes.proofs.whole.take_ids.Goals as goal

pub index-part-requires : goal.index-part-requires
index-part-requires c =
    let there = root_there (ref c.args.root) c.args.nodes.now.items c.requires.tree in
    let size = c.sift.ensures.sifted.size in
    let len = c.sift.new.nodes.ok.0 in
    omega (arith, there, size, len)

pub returns-then-is_empty-clause-left : goal.returns-then-is_empty-clause-left
returns-then-is_empty-clause-left c =
    let part = c.index-part.result.now in
    tree_gone c.args.ids.now (ref c.args.root) c.args.nodes.now.items c.requires.tree c.sift.new.nodes.items c.sift.ensures.sifted part c.index-part.ensures (none_left (length part.kids.items) (sym c.is_empty.ensures ∙ c.if-is_empty.true))

pub returns-clause-left : goal.returns-clause-left
returns-clause-left c =
    let part = c.index-part.result.now in
    tree_left c.args.ids.now (ref c.args.root) c.args.nodes.now.items c.requires.tree c.sift.new.nodes.items c.sift.ensures.sifted part c.index-part.ensures (some_left (length part.kids.items) (sym c.is_empty.ensures ∙ c.if-is_empty.false))
