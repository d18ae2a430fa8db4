use Rattle.std.{proofs.Common.{◌≡◌, ◌++◌, ap₂, ◌∙◌, subst}, proofs.lemmas.Result.{MatchResult-weaker}}
use Rattle.mob_typed.specs.Selects.{select_seen}
use Rattle.mob_tail.{specs.GroupedAnswers.{keys_from}, proofs.AnswerRows.{group_row}}
use Rattle.mob_tail.proofs.grouping.row_with.Goals as goal

pub returns : goal.returns
returns c = record {
  row = λ tuples h made.
      let select = select_seen c.args.select.now in
      let keys = subst (λ z. c.in_ok-keys.keys ≡ keys_from select c.args.store.now c.args.terms.now tuples z 0 select.keys) c.as_slice.ensures.value (c.in_ok-keys.ensures.values tuples h) in
      MatchResult-weaker c.new.result c.new.ensures.values (λ row is.
      group_row select c.args.store.now c.args.terms.now tuples c.args.columns.items c.in_ok-keys.keys row made keys
      (is ∙ ap₂ (λ a b. a ++ b) (c.in_ok-keys-2.ensures.values ∙ c.into_vec.ensures.same) c.in_ok-fields.ensures.values)) (λ e h. h);
}
