use Rattle.std.{specs.List.{AllZip}, specs.Vec.Iter.{into_iter_items}, proofs.Common.{◌≡◌, [], sym, ◌∙◌, subst, rules}, proofs.lemmas.List.{nil_from_length}}
use Rattle.mob_list.proofs.Entries.{counted_down}
use Rattle.mob_typed.specs.Selects.{select_seen}
use Rattle.mob_tail.{specs.AnswerRows.{IsGroupRowOf}, specs.GroupSteps.{IsGroupOf}, proofs.MadeSoFar.{made_none, made_more, made_all}}
use Rattle.mob_tail.proofs.grouping.rows_of.Goals as goal

pub loop-group-init : goal.loop-group-init
loop-group-init c =
    let R = IsGroupOf (select_seen c.args.select.now) c.args.store.now c.args.terms.now in
    let Q = IsGroupRowOf (select_seen c.args.select.now) c.args.store.now c.args.terms.now in
    let none : c.in_ok-rows.rows.items ≡ [] = search rules in
    let whole : into_iter_items c.into_iter-group-iterator.result ≡ c.args.groups.items = search rules in
    record {
      goes = tt;
      ends = tt;
      counted = search rules;
      made = λ all h. made_none R Q all c.in_ok-rows.rows.items (into_iter_items c.into_iter-group-iterator.result) none (subst (AllZip R all) (sym whole) h);
    }

pub loop-group-preserved : goal.loop-group-preserved
loop-group-preserved c =
    let left = c.in-Some.ensures.steps.0 in
    let R = IsGroupOf (select_seen c.args.select.now) c.args.store.now c.args.terms.now in
    let Q = IsGroupRowOf (select_seen c.args.select.now) c.args.store.now c.args.terms.now in
    record {
      goes = tt;
      ends = tt;
      counted = counted_down _ _ _ _ _ left c.in-Some.ensures.steps.1 c.loop-group.invariant.counted;
      made = λ all h. made_more R Q all c.loop-group.rows.items c.push.new.self.items (into_iter_items c.loop-group.group-iterator) (into_iter_items c.next.new.self) c.in-Some.group c.in_ok-row_of.field-0 left c.in_ok-push.ensures.items
          (λ x r. c.in_ok-row_of.ensures.row x r) (c.loop-group.invariant.made all h);
    }

pub returns : goal.returns
returns c = record {
  rows = λ all h.
      made_all (IsGroupOf (select_seen c.args.select.now) c.args.store.now c.args.terms.now) (IsGroupRowOf (select_seen c.args.select.now) c.args.store.now c.args.terms.now) all c.loop-group.rows.items (into_iter_items c.loop-group.group-iterator) (nil_from_length _ (sym c.loop-group.invariant.counted ∙ c.in-None.ensures.steps.0)) (c.loop-group.invariant.made all h);
}
