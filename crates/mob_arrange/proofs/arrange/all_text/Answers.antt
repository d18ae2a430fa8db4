use Rattle.std.{proofs.Common.{List, map, drop, refl, ap, ◌∙◌}, proofs.lemmas.Result.{MatchResult-weaker}}
use Rattle.mob_value.specs.declared.value.Value.{Value}
use Rattle.mob_literal.specs.Fields.{field_text}
use Rattle.mob_records.specs.AnswerText.{answer_text}
use Rattle.mob_arrange.proofs.Given.{cut_before}
use Rattle.mob_arrange.proofs.arrange.all_text.Goals as goal

pub returns : goal.returns
returns c =
    let print = λ (row : List Value). map (field_text c.args.epoch.now) (drop c.args.keys row) in
    let cut = ap (map print) c.limited.ensures.front ∙ cut_before print c.args.limit c.args.rows.now in
    record { text = MatchResult-weaker c.counted_text_by.result c.counted_text_by.ensures.text (λ text e. (map print c.args.rows.now, refl, e ∙ ap (answer_text c.args.names.now) cut)) (λ e h. h) }
