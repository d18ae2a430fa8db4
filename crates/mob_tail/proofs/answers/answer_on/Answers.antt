use Rattle.std.{proofs.Common.{map, sym, ◌∙◌, arith, ap, length}, proofs.lemmas.List.{length-map, length-append}}
use Rattle.mob_typed.specs.Selects.{Output, output_of, select_seen}
use Rattle.mob_eval.specs.Remembered.{root_seen}
use Rattle.mob_tail.{specs.AnswerRows.{answer_row}, specs.Recalling.{item_trees, order_trees}, proofs.Fitting.{halves}}
use Rattle.mob_tail.proofs.answers.answer_on.Goals as goal

pub split_at-requires : goal.split_at-requires
split_at-requires g c =
    let select = select_seen c.args.select.now in
    let all = sym (length-map c.args.roots.now root_seen) ∙ ap length c.requires.roots ∙ length-append (item_trees select) (order_trees select) in
    let count = length-map select.items (λ (item : Output). item.0) ∙ length-map c.args.select.now.items output_of in
    omega (arith, all, count, c.len.ensures.count)

pub rows_on-requires : goal.rows_on-requires
rows_on-requires g c =
    let select = select_seen c.args.select.now in
    let count = c.split_at.ensures.front_len ∙ c.len.ensures.count ∙ sym (length-map select.items (λ (item : Output). item.0) ∙ length-map c.args.select.now.items output_of) in
    let both = halves root_seen c.args.roots.now _ _ (item_trees select) (order_trees select) c.split_at.ensures.by_index.0 count c.requires.roots in
    record { items = both.0; keys = both.1; fits = c.requires.fits }

pub returns-in_ok-text_of-in-Ok-clause-text : goal.returns-in_ok-text_of-in-Ok-clause-text
returns-in_ok-text_of-in-Ok-clause-text g c =
    let text = c.in_ok-text_of-in-Ok.ensures.text in
    (text.0, (map (answer_row (select_seen c.args.select.now) c.args.terms.now.epoch) c.in-Ok.rows.items, c.in-Ok.ensures.rows, text.1), text.2)
