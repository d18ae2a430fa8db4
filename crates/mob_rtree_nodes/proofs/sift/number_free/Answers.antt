use Rattle.std.proofs.Common.{◌∙◌, arith}
use Rattle.mob_rtree_nodes.proofs.Frees.{dropped_more}
use Rattle.mob_rtree_nodes.proofs.sift.number_free.Goals as goal

pub loop-node-preserved : goal.loop-node-preserved
loop-node-preserved c =
    let len = c.free_one.ensures.len in
    let long = c.loop-node.invariant.1 in (
      λ f. omega (arith, c.free_one.ensures.numbered f, c.loop-node.invariant.0 f, dropped_more f c.args.nodes.now c.loop-node.node c.loop-node-test.true),
      omega (arith, len, long),
      c.free_one.ensures.capacity ∙ c.loop-node.invariant.2,
    )
