use Rattle.mob_near.proofs.Stretches.{none_met, covers_clear_as}
use Rattle.mob_near.proofs.covered.have_common.Goals as goal

pub share_covers-met-requires-clause-left : goal.share_covers-met-requires-clause-left
share_covers-met-requires-clause-left c = covers_clear_as c.args.a.now c.args.over_a.now c.all.result.now c.all.ensures.same c.requires.left

pub share_covers-met-requires-clause-right : goal.share_covers-met-requires-clause-right
share_covers-met-requires-clause-right c = covers_clear_as c.args.b.now c.args.over_b.now c.all-2.result.now c.all-2.ensures.same c.requires.right

pub returns : goal.returns
returns c = record { value = none_met c.args.a.now c.args.b.now c.args.over_a.now c.args.over_b.now c.all.result.now c.all-2.result.now c.all.ensures.same c.all-2.ensures.same c.requires.left c.requires.right (c.share_covers-met.ensures.none c.if-met.false) }
