use Rattle.std.proofs.Common.{map}
use Rattle.mob_typed.specs.Selects.{select_seen}
use Rattle.mob_tail.{specs.Groups.{groups_on}, specs.GroupedAnswers.{IsGroupRow}, specs.AnswerRows.{answer_row}, proofs.AnswerRows.{all_seen}}
use Rattle.mob_tail.proofs.answers.grouped_answer.Goals as goal

pub returns-in_ok-text_of-in-Ok-clause-text : goal.returns-in_ok-text_of-in-Ok-clause-text
returns-in_ok-text_of-in-Ok-clause-text c =
    let select = select_seen c.args.select.now in
    let store = c.args.store.now in
    let terms = c.args.terms.now in
    let rows = c.in-Ok.rows.items in
    let all = all_seen (IsGroupRow select store terms) (answer_row select terms.epoch) (groups_on select store terms c.args.kept.now) rows c.in-Ok.ensures.rows in
    let text = c.in_ok-text_of-in-Ok.ensures.text in
    (text.0, (c.in-Ok.ensures.fits, (map (answer_row select terms.epoch) rows, all, text.1)), text.2)
