use Rattle.std.proofs.Common.{true, ◌∙◌, ap}
use Rattle.clap.specs.Simple.{app_of_fields}
use Rattle.mob_arguments.specs.Arguments.{without_flags}
use Rattle.mob_arguments.proofs.command.bare_command.Goals as goal

pub returns : goal.returns
returns c = record {
  bare = ap app_of_fields c.disable_version_flag.ensures
      ∙ ap (λ f. app_of_fields (record f { disable_version_flag = true })) c.disable_help_flag.ensures
      ∙ ap without_flags c.new.ensures.app;
}
