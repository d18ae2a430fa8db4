use Rattle.mob_legs.specs.Covers.{run_of}
use Rattle.mob_near.proofs.Stretches.{none_reach, reach_as}
use Rattle.mob_near.proofs.covered.stretch_comes_within.Goals as goal

pub returns-then-are_beyond : goal.returns-then-are_beyond
returns-then-are_beyond c = record { value = none_reach c.args.v.now c.args.w.now c.args.over_v.now c.args.over_w.now c.args.d.now c.args.square.now c.requires.left c.requires.right c.requires.left_run c.requires.right_run c.requires.distance c.requires.square (c.are_beyond.ensures.beyond c.if-are_beyond.true) }

pub run_of-requires-clause-room : goal.run_of-requires-clause-room
run_of-requires-clause-room c = c.requires.left_run.room

pub run_of-requires-2-clause-room : goal.run_of-requires-2-clause-room
run_of-requires-2-clause-room c = c.requires.right_run.room

pub returns : goal.returns
returns c = record { value = reach_as c.args.square.now (run_of c.args.v.now c.args.over_v.now) (run_of c.args.w.now c.args.over_w.now) c.run_of.result.now c.run_of-2.result.now c.runs_come_within.result c.run_of.ensures.run c.run_of-2.ensures.run c.runs_come_within.ensures.value }
