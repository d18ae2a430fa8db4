use Rattle.std.{specs.Prelude.{IfOk, IfSome, IsNone}, proofs.Common.{◌≡◌, ◌∙◌, ap, map, string_bytes, subst}}
use Rattle.clap.specs.Words.{App, Text, app_of, first_value, found_of, is_simple_and_free}
use Rattle.mob_arguments.specs.Arguments.{Takes, command_of, option_value}
use Rattle.mob_arguments.proofs.command.given.Goals as goal

pub matched-requires : goal.matched-requires
matched-requires c = record { free = ap is_simple_and_free c.in_ok-command.ensures.made ∙ c.requires.free }

pub returns : goal.returns
returns c =
    let is : app_of c.in_ok-command.command ≡ command_of c.args.name.now (map (λ o. o.now) c.args.options.now) (map (λ f. f.now) c.args.flags.now) = c.in_ok-command.ensures.made in
    let words = map string_bytes c.args.words.now in
    record {
      taken = subst (λ (a : App). IfOk c.matched.result (λ o. IfSome o (λ m. Takes a words))) is c.matched.ensures.taken;
      refused = subst (λ (a : App). IfOk c.matched.result (λ o. IsNone o → Takes a words → ⊥)) is c.matched.ensures.refused;
      values = subst (λ (a : App). IfOk c.matched.result (λ o. IfSome o (λ m. (name : Text) → first_value (found_of m) name ≡ option_value a name words))) is c.matched.ensures.values;
    }
