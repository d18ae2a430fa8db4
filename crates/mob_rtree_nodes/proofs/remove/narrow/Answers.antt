use Rattle.mob_rtree_nodes.proofs.Shrinks.{settled_narrow}
use Rattle.mob_rtree_nodes.proofs.remove.narrow.Goals as goal

pub returns : goal.returns
returns c = record { settled = settled_narrow c.args.part.now c.widen.new.part c.args.slot c.args.area c.requires.slot c.widen.ensures.replaced }
