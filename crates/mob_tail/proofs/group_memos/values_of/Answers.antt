use Rattle.std.{specs.List.{AllZip}, specs.Vec.Iter.{into_iter_items}, proofs.Common.{◌≡◌, [], sym, subst, ◌∙◌, rules}, proofs.lemmas.List.{nil_from_length}}
use Rattle.mob_list.proofs.Entries.{counted_down}
use Rattle.mob_tail.{specs.GroupSteps.{column_seen, IsMemoKept}, proofs.MadeSoFar.{made_none, made_more, made_all, same_lists}, proofs.TupleSteps.{kept_value}}
use Rattle.mob_tail.proofs.group_memos.values_of.Goals as goal

pub loop-memo-init : goal.loop-memo-init
loop-memo-init c =
    let none : c.in_ok-values.values.items ≡ [] = search rules in
    let whole : into_iter_items c.into_iter-memo-iterator.result ≡ c.args.memos.items = search rules in
    record {
      goes = tt;
      ends = tt;
      counted = search rules;
      made = λ all h. made_none IsMemoKept (λ r v. v ≡ r) all c.in_ok-values.values.items (into_iter_items c.into_iter-memo-iterator.result) none (subst (AllZip IsMemoKept all) (sym whole) h);
    }

pub loop-memo-preserved : goal.loop-memo-preserved
loop-memo-preserved c =
    let left = c.in-Some.ensures.steps.0 in
    record {
      goes = tt;
      ends = tt;
      counted = counted_down _ _ _ _ _ left c.in-Some.ensures.steps.1 c.loop-memo.invariant.counted;
      made = λ all h. made_more IsMemoKept (λ r v. v ≡ r) all c.loop-memo.values.items c.push.new.self.items (into_iter_items c.loop-memo.memo-iterator) (into_iter_items c.next.new.self) c.in-Some.memo c.in_ok-value_of.field-0 left c.in_ok-push.ensures.items
          (λ r k. kept_value (column_seen c.in-Some.memo.column) c.in-Some.memo.state r k _ c.in_ok-value_of.ensures.value) (c.loop-memo.invariant.made all h);
    }

pub returns : goal.returns
returns c = record {
  values = λ all h.
      same_lists all c.loop-memo.values.items (made_all IsMemoKept (λ r v. v ≡ r) all c.loop-memo.values.items (into_iter_items c.loop-memo.memo-iterator) (nil_from_length _ (sym c.loop-memo.invariant.counted ∙ c.in-None.ensures.steps.0)) (c.loop-memo.invariant.made all h));
}
