use Rattle.std.proofs.Common.{◌∙◌, arith}
use Rattle.mob_rtree_nodes.proofs.Sifts.{next_level}
use Rattle.mob_rtree_nodes.proofs.sift.sift_level.Goals as goal

pub loop-node-preserved : goal.loop-node-preserved
loop-node-preserved c = (c.sift_at.ensures.sound, c.sift_at.ensures.size ∙ c.loop-node.invariant.1, c.sift_at.ensures.capacity ∙ c.loop-node.invariant.2, λ root old tree up. c.sift_at.ensures.sifted root old tree (c.loop-node.invariant.3 root old tree up))

pub returns-clause-sifted : goal.returns-clause-sifted
returns-clause-sifted c root old tree up =
    let size = c.loop-node.invariant.1 in
    let end = c.len-node-end.ensures in
    let past = c.loop-node-test.false in
    next_level c.args.ids.now root old tree c.args.height c.loop-node.node c.loop-node.nodes.items (omega (arith, size, end, past)) (c.loop-node.invariant.3 root old tree up)
