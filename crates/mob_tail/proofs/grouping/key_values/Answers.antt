use Rattle.std.{proofs.Common.{◌∙◌, ◌+◌, ◌++◌, ◌∷◌, [], ap, sym, map, drop, append_assoc, append-nil}, proofs.lemmas.List.{drop_all}}
use Rattle.mob_typed.specs.Selects.{select_seen, key_seen}
use Rattle.mob_list.proofs.Entries.{drop_read}
use Rattle.mob_tail.specs.GroupedAnswers.{keys_from}
use Rattle.mob_tail.proofs.grouping.key_values.Goals as goal

pub loop-number-preserved : goal.loop-number-preserved
loop-number-preserved c = λ tuples e.
    let at = c.loop-number in
    let keys = c.as_slice-keys.result.now in
    let from = keys_from (select_seen c.args.select.now) c.args.store.now c.args.terms.now tuples c.args.columns.now in
    let rest = from (at.number + 1) (map key_seen (drop (at.number + 1) keys)) in
    ap (λ z. z ++ rest) (c.in_ok-push.ensures.items ∙ ap (λ v. at.values.items ++ v ∷ []) (c.in_ok-key_value.ensures.value tuples e))
    ∙ append_assoc at.values.items (_ ∷ []) rest
    ∙ ap (λ z. at.values.items ++ from at.number (map key_seen z)) (sym (drop_read keys at.number c.index-keys-number.result c.loop-number-test.true c.index-keys-number.is))
    ∙ at.invariant tuples e

pub returns : goal.returns
returns c = record {
  values = λ tuples e.
      let at = c.loop-number in
      let keys = c.as_slice-keys.result.now in
      let from = keys_from (select_seen c.args.select.now) c.args.store.now c.args.terms.now tuples c.args.columns.now in
      c.from_vec.ensures.same
      ∙ sym (append-nil at.values.items)
      ∙ ap (λ z. at.values.items ++ from at.number (map key_seen z)) (sym (drop_all at.number keys c.loop-number-test.false))
      ∙ at.invariant tuples e
      ∙ ap (λ z. from 0 (map key_seen z)) c.as_slice-keys.ensures.same;
}
