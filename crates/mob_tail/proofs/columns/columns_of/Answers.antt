use Rattle.std.{proofs.Common.{◌∙◌, ◌+◌, ◌++◌, ◌∷◌, [], ap, sym, map, drop, append-nil}, proofs.lemmas.List.{drop_all, map-append}}
use Rattle.mob_typed.{specs.Trees.{typed_of}, specs.Selects.{output_of}}
use Rattle.mob_tail.{specs.GroupedAnswers.{columns_from}, specs.GroupSteps.{column_seen}, proofs.ColumnValues.{next_column}}
use Rattle.mob_tail.proofs.columns.columns_of.Goals as goal

pub loop-number-preserved : goal.loop-number-preserved
loop-number-preserved c =
    let at = c.loop-number in
    let item = c.index-items-number.result in
    ap (λ z. map column_seen z ++ columns_from c.args.aggs.now (at.number + 1) (map output_of (drop (at.number + 1) c.args.items.now))) c.in_ok-push.ensures.items
    ∙ ap (λ z. z ++ columns_from c.args.aggs.now (at.number + 1) (map output_of (drop (at.number + 1) c.args.items.now))) (map-append column_seen at.columns.items _)
    ∙ ap (λ a. (map column_seen at.columns.items ++ (typed_of item.0, a) ∷ []) ++ columns_from c.args.aggs.now (at.number + 1) (map output_of (drop (at.number + 1) c.args.items.now))) c.agg_at.ensures.agg
    ∙ next_column c.args.aggs.now c.args.items.now at.number item c.loop-number-test.true c.index-items-number.is (map column_seen at.columns.items) _ at.invariant

pub returns : goal.returns
returns c =
    let at = c.loop-number in
    record { columns = sym (append-nil (map column_seen at.columns.items)) ∙ ap (λ z. map column_seen at.columns.items ++ columns_from c.args.aggs.now at.number (map output_of z)) (sym (drop_all at.number c.args.items.now c.loop-number-test.false)) ∙ at.invariant }
