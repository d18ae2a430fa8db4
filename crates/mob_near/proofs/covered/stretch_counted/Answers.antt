use Rattle.mob_legs.specs.Covers.{run_of}
use Rattle.mob_near.proofs.Stretches.{nearer_as}
use Rattle.mob_near.proofs.covered.stretch_counted.Goals as goal

pub run_of-requires-clause-room : goal.run_of-requires-clause-room
run_of-requires-clause-room c = c.requires.left_run.room

pub run_of-requires-2-clause-room : goal.run_of-requires-2-clause-room
run_of-requires-2-clause-room c = c.requires.right_run.room

pub returns : goal.returns
returns c = record { value = nearer_as (run_of c.args.v.now c.args.over_v.now) (run_of c.args.w.now c.args.over_w.now) c.run_of.result.now c.run_of-2.result.now c.args.found c.runs_nearer.result c.run_of.ensures.run c.run_of-2.ensures.run c.runs_nearer.ensures.value }
