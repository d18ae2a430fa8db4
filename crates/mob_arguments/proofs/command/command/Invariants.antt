use Rattle.std.proofs.Common.{◌≡◌, map, take}
use Rattle.clap.specs.Words.{app_of}
use Rattle.mob_arguments.specs.Arguments.{command_of}
use Rattle.mob_arguments.proofs.command.command.Given as goal

abbrev pub invariant-loop-flag : goal.invariant-loop-flag
invariant-loop-flag l = app_of l.command ≡ command_of l.name (map (λ o. o.now) l.options) (map (λ f. f.now) (take l.flag-index l.flags))
