use Rattle.std.proofs.Common.{◌∙◌, ap, inl, inr}
use Rattle.clap.{specs.Words.{app_of, found_of, first_of}, proofs.WalkLemmas.{first_value-rows}}
use Rattle.mob_arguments.{specs.Arguments.{Takes, option_value}, proofs.Taken.{no_fault, simple_of}}
use Rattle.mob_arguments.proofs.command.matched.Goals as goal

pub returns-in-Ok-clause-taken : goal.returns-in-Ok-clause-taken
unfolding Takes
returns-in-Ok-clause-taken c = c.in-Ok.ensures.kinds c.requires.free

pub returns-in-Ok-clause-values : goal.returns-in-Ok-clause-values
unfolding option_value
returns-in-Ok-clause-values c = λ name. first_value-rows (found_of c.in-Ok.matches) name ∙ ap (first_of name) (c.in-Ok.ensures.matches (simple_of (app_of c.args.command) c.requires.free)).0

pub returns : goal.returns
returns c = record {
  taken = tt;
  refused = λ _. elim (c.in-Err.ensures.kinds c.requires.free) [
    | inl memory ↦ absurd (c.in_default.not-OutOfMemory (c.kind.ensures ∙ memory))
    | inr among ↦ no_fault _ _ _ among
  ];
  values = tt;
}
