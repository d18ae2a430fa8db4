use Rattle.std.proofs.Common.{◌≡◌, [], map, take}
use Rattle.clap.specs.Words.{app_of}
use Rattle.mob_arguments.specs.Arguments.{command_of}
use Rattle.mob_arguments.proofs.command.with_options.Given as goal

abbrev pub invariant-loop-option : goal.invariant-loop-option
invariant-loop-option l = app_of l.command ≡ command_of l.name (map (λ o. o.now) (take l.option-index l.options)) []
