use Rattle.std.{proofs.Common.{map, ap, ◌∙◌}, proofs.lemmas.Result.{MatchResult-weaker}}
use Rattle.mob_records.specs.AnswerText.{answer_text}
use Rattle.mob_arrange.{specs.Rows.{limited}, specs.TextsSeen.{strings_of}, proofs.Given.{cut_before}}
use Rattle.mob_arrange.proofs.arrange.distinct_text.Goals as goal

pub returns : goal.returns
returns c =
    let kept = c.in_ok-kept.kept.keys in
    let cut = ap (map strings_of) (c.limited.ensures.front ∙ ap (limited c.args.limit) c.as_slice.ensures.keys) ∙ cut_before strings_of c.args.limit kept in
    record { text = MatchResult-weaker c.counted_text_by.result c.counted_text_by.ensures.text (λ text e. (map strings_of kept, c.in_ok-kept.ensures.first, e ∙ ap (answer_text c.args.names.now) cut)) (λ e h. h) }
