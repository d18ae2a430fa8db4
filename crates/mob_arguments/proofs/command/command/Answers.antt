use Rattle.mob_arguments.proofs.Commands.{next_flag}
use Rattle.mob_arguments.proofs.command.command.Goals as goal

pub loop-flag-preserved : goal.loop-flag-preserved
loop-flag-preserved c = next_flag c.args.name.now _ c.args.flags.now c.loop-flag.flag-index _ _ _ c.loop-flag-test.true c.loop-flag.invariant c.in_ok-command-2.ensures.added
