use Rattle.mob_shares.proofs.Begins.{none_back}
use Rattle.mob_shares.proofs.shares.back.Goals as goal

pub returns-then-end_together-clause-test : goal.returns-then-end_together-clause-test
returns-then-end_together-clause-test c = none_back c.args.span.now c.args.first.now (c.end_together.ensures.together c.if-end_together.true)
