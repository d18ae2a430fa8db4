use Rattle.mob_near.proofs.Stretches.{covers_as, reach_as}
use Rattle.mob_near.proofs.covered.covered_come_within.Goals as goal

pub stretches_come_within-requires-clause-left_covers : goal.stretches_come_within-requires-clause-left_covers
stretches_come_within-requires-clause-left_covers c = covers_as c.args.a.now c.slices.result.now c.args.over_a.now c.all.result.now c.slices.ensures.same c.all.ensures.same c.requires.left

pub stretches_come_within-requires-clause-right_covers : goal.stretches_come_within-requires-clause-right_covers
stretches_come_within-requires-clause-right_covers c = covers_as c.args.b.now c.slices-2.result.now c.args.over_b.now c.all-2.result.now c.slices-2.ensures.same c.all-2.ensures.same c.requires.right

pub returns : goal.returns
returns c = record { value = reach_as c.args.square.now c.args.a.now c.args.b.now c.slices.result.now c.slices-2.result.now c.stretches_come_within.result c.slices.ensures.same c.slices-2.ensures.same c.stretches_come_within.ensures.value }
