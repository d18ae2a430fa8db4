use Rattle.std.proofs.Common.{◌≡◌, ◌∙◌, sym, ap, true}
use Rattle.mob_clauses.{specs.Keys.{is_limit}, proofs.Limits.{limit_parsed}}
use Rattle.mob_clauses.proofs.keys.limit_value.Goals as goal

pub returns-then-is_limit : goal.returns-then-is_limit
returns-then-is_limit c =
    let good : is_limit c.args.text.now ≡ true = ap is_limit (sym c.as_bytes.ensures.value) ∙ sym c.is_limit.ensures.digits ∙ c.if-is_limit.true in
    record { number = c.ok.ensures.value ∙ limit_parsed c.args.text.now good c.parse.result c.parse.ensures.value.0 }
