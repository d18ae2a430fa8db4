use Rattle.std.proofs.Common.{arith}
use Rattle.mob_rtree_nodes.proofs.Sifts.{next_node, pass_node}
use Rattle.mob_rtree_nodes.proofs.sift.sift_at.Goals as goal

pub returns-then-index-height-clause-sifted : goal.returns-then-index-height-clause-sifted
returns-then-index-height-clause-sifted c root old tree up = pass_node c.args.ids.now root old tree c.args.height c.args.node c.args.nodes.now.items up c.index.result.now c.requires.there c.index.ensures c.if-index-height.true

pub returns-clause-sifted : goal.returns-clause-sifted
returns-clause-sifted c root old tree up =
    next_node c.args.ids.now root old tree c.args.height c.args.node c.args.nodes.now.items up c.index.result.now c.sift_node.new.nodes.items c.requires.there c.index.ensures (omega (arith, c.if-index-height.false)) c.sift_node.ensures.sifted
