use Rattle.mob_near.proofs.Stretches.{covers_as, least_as, least_is}
use Rattle.mob_near.proofs.covered.least_covered.Goals as goal

pub least_of_stretches-requires-clause-left_covers : goal.least_of_stretches-requires-clause-left_covers
least_of_stretches-requires-clause-left_covers c = covers_as c.args.a.now c.slices.result.now c.args.over_a.now c.all.result.now c.slices.ensures.same c.all.ensures.same c.requires.left

pub least_of_stretches-requires-clause-right_covers : goal.least_of_stretches-requires-clause-right_covers
least_of_stretches-requires-clause-right_covers c = covers_as c.args.b.now c.slices-2.result.now c.args.over_b.now c.all-2.result.now c.slices-2.ensures.same c.all-2.ensures.same c.requires.right

pub returns-clause-value : goal.returns-clause-value
returns-clause-value c = least_is c.args.a.now c.args.b.now c.requires.left.order c.requires.right.order c.least_of_stretches.result (least_as c.args.a.now c.args.b.now c.slices.result.now c.slices-2.result.now c.least_of_stretches.result c.slices.ensures.same c.slices-2.ensures.same c.least_of_stretches.ensures.least)

pub returns-clause-least : goal.returns-clause-least
returns-clause-least c = least_as c.args.a.now c.args.b.now c.slices.result.now c.slices-2.result.now c.least_of_stretches.result c.slices.ensures.same c.slices-2.ensures.same c.least_of_stretches.ensures.least
