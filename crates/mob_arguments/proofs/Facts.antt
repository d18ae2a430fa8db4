-- The command is simple, and no option has a rule about another.
use Rattle.std.proofs.Common.{◌≡◌, refl, true}
use Rattle.clap.{specs.Words.{is_simple_and_free}, proofs.OnLiterals.{clap_on_literals}}
use Rattle.mob_arguments.{specs.Arguments.{command_of}, specs.CommandLine.{command}}

pub command_is_free : is_simple_and_free command ≡ true
unfolding command_of clap_on_literals
command_is_free = refl
