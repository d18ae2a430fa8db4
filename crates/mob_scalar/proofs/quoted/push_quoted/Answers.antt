use Rattle.std.{proofs.Common.{◌≡◌, ◌++◌, ◌∙◌, string_bytes, codes, arith}, proofs.lemmas.List.{nil_from_length}, proofs.lemmas.Grind.{common_steps}}
use Rattle.mob_scalar.{specs.Quoted.{quoted_text}, proofs.EscapedLemmas.{escape_step, quoted_end}}
use Rattle.mob_scalar.proofs.quoted.push_quoted.Goals as goal

pub loop-c-preserved : goal.loop-c-preserved
loop-c-preserved c =
    escape_step (string_bytes c.loop-c.into) (string_bytes c.push_escaped.new.into) _ c.loop-c.c-iterator.rest.now c.next.new.self.rest.now c.in_ok-push_escaped.ensures.written c.in-Some.ensures.steps.0
    ∙ c.loop-c.invariant

pub returns : goal.returns
returns c =
    let end : string_bytes c.loop-c.into ++ codes "\"" ≡ string_bytes c.args.into.now ++ quoted_text c.args.value.now =
    quoted_end (string_bytes c.args.into.now) (string_bytes c.push_str.new.self) (string_bytes c.loop-c.into) c.args.value.now c.loop-c.c-iterator.rest.now c.in_ok-push_str.ensures.bytes c.loop-c.invariant (nil_from_length c.loop-c.c-iterator.rest.now c.in-None.ensures.steps.0.0) in
    grind (arith, common_steps, end)
