use Rattle.std.proofs.Common.{◌≡◌, ◌∙◌, IfOk, length, map, ap, subst}
use Rattle.mob_typed.specs.Selects.{select_seen, output_of, key_seen}
use Rattle.mob_arrange.{specs.Keyed.{row_of_values}, specs.RowsText.{IsTextOfArranged}}
use Rattle.mob_tail.{specs.AnswerRows.{falls_of}, specs.AnswerTexts.{answer_names}}
use Rattle.mob_tail.proofs.answers.text_of.Goals as goal

pub returns : goal.returns
returns c =
    let select = select_seen c.args.select.now in
    let day = c.args.epoch.now in
    let rows = c.args.rows.items in
    let r = c.arranged_text.result in
    let names : c.as_slice-3.result.now ≡ answer_names select = c.as_slice-3.ensures.same ∙ c.in_ok-names.ensures.names ∙ ap (λ z. map (λ item. item.1) (map output_of z)) c.as_slice.ensures.same in
    let falls : c.as_slice-4.result.now ≡ falls_of select = c.as_slice-4.ensures.value ∙ c.in_ok-falls.ensures.falls ∙ ap (λ z. map (λ key. key.1) (map key_seen z)) c.as_slice-2.ensures.same in
    let there = subst (λ n. IfOk r (λ text. IsTextOfArranged n c.as_slice-4.result.now select.distinct select.limit (map (row_of_values day (length c.as_slice-4.result.now)) rows) text.items)) names c.arranged_text.ensures.text in
    record { text = subst (λ f. IfOk r (λ text. IsTextOfArranged (answer_names select) f select.distinct select.limit (map (row_of_values day (length f)) rows) text.items)) falls there }
