use Rattle.mob_near.proofs.Stretches.{none_nearer}
use Rattle.mob_near.proofs.covered.stretch_nearer_than.Goals as goal

pub returns-then-beyond : goal.returns-then-beyond
returns-then-beyond c = record { value = none_nearer c.args.v.now c.args.w.now c.args.over_v.now c.args.over_w.now c.args.found c.requires.left c.requires.right c.requires.left_run c.requires.right_run (c.in_ok-beyond.ensures.beyond c.if-beyond.true) }
