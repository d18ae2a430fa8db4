use Rattle.std.{proofs.Common.{rules, ◌≡◌, ◌∙◌, ap}, proofs.lemmas.Result.{IfOk-weaker}}
use Rattle.clap.specs.Words.{app_of, rule_of, with_rule}
use Rattle.mob_arguments.specs.Arguments.{flag}
use Rattle.mob_arguments.proofs.command.with_flag.Goals as goal

pub returns : goal.returns
returns c =
    let rule_is : rule_of c.action-flag.result ≡ flag c.args.name.now = search rules in
    record { added = IfOk-weaker c.arg.result _ _ (λ m h. h.shape (search rules) ∙ ap (with_rule (app_of c.args.command)) rule_is) c.arg.ensures }
