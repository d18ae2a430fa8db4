use Rattle.std.proofs.Common.{◌∙◌, sym}
use Rattle.mob_arguments.proofs.Commands.{next_option, no_option}
use Rattle.mob_arguments.proofs.command.with_options.Goals as goal

pub loop-option-init : goal.loop-option-init
loop-option-init c = c.bare_command-command.ensures.bare ∙ sym (no_option c.args.name.now)

pub loop-option-preserved : goal.loop-option-preserved
loop-option-preserved c = next_option c.args.name.now c.args.options.now c.loop-option.option-index _ _ _ c.loop-option-test.true c.loop-option.invariant c.in_ok-command.ensures.added
