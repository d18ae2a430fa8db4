use Rattle.std.{proofs.Common.{length}, proofs.lemmas.Result.{MatchResult-weaker}}
use Rattle.mob_arrange.proofs.Given.{text_arranged}
use Rattle.mob_arrange.proofs.arrange.arranged_text.Goals as goal

pub returns-then-is_distinct : goal.returns-then-is_distinct
returns-then-is_distinct c =
    let day = c.args.epoch.now in
    let falls = c.args.falls.now in
    record { text = rw c.if-is_distinct.true (MatchResult-weaker c.distinct_text.result (rw c.as_slice.ensures.value at c.distinct_text.ensures.text) (λ text given. text_arranged day (length falls) c.args.names.now falls _ c.args.limit c.args.rows.items _ text.items (c.in_ok-order.ensures.ordered day) given) (λ e h. h)) }

pub returns : goal.returns
returns c =
    let day = c.args.epoch.now in
    let falls = c.args.falls.now in
    record { text = rw c.if-is_distinct.false (MatchResult-weaker c.all_text.result (rw c.as_slice-else-is_distinct.ensures.value at c.all_text.ensures.text) (λ text given. text_arranged day (length falls) c.args.names.now falls _ c.args.limit c.args.rows.items _ text.items (c.in_ok-order.ensures.ordered day) given) (λ e h. h)) }
