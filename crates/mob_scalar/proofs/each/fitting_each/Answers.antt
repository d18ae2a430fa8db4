use Rattle.std.{specs.Vec.Iter.{into_iter_items}, proofs.Common.{Ok, sym, ◌∙◌}, proofs.lemmas.List.{nil_from_length}}
use Rattle.mob_list.proofs.Entries.{counted_down}
use Rattle.mob_scalar.proofs.Traversed.{traverse_more, traverse_fails, traverse_ends}
use Rattle.mob_scalar.proofs.each.fitting_each.Goals as goal

pub returns-in_default : goal.returns-in_default
returns-in_default g c = record {
  fitting = λ part exact. traverse_fails part c.loop-item.fitting.items (into_iter_items c.loop-item.item-iterator) (into_iter_items c.next.new.self) c.in-Some.item c.in-Some.ensures.steps.0 (rw c.in_default.is at (exact c.in-Some.item (Ok c.in_ok-made.field-0) c.in_ok-made.ensures)) ∙ c.loop-item.invariant.together part exact;
}

pub loop-item-preserved : goal.loop-item-preserved
loop-item-preserved g c = record {
  goes = tt;
  ends = tt;
  counted = counted_down _ _ _ _ _ c.in-Some.ensures.steps.0 c.in-Some.ensures.steps.1 c.loop-item.invariant.counted;
  together = λ part exact. rw c.in_ok-push.ensures.items (traverse_more part c.loop-item.fitting.items (into_iter_items c.loop-item.item-iterator) (into_iter_items c.next.new.self) c.in-Some.item c.in-Some-2.made c.in-Some.ensures.steps.0 (rw c.in-Some-2.is at (exact c.in-Some.item (Ok c.in_ok-made.field-0) c.in_ok-made.ensures))) ∙ c.loop-item.invariant.together part exact;
}

pub returns : goal.returns
returns g c = record {
  fitting = λ part exact. traverse_ends part c.loop-item.fitting.items (into_iter_items c.loop-item.item-iterator) (nil_from_length (into_iter_items c.loop-item.item-iterator) (sym c.loop-item.invariant.counted ∙ c.in-None.ensures.steps.0)) ∙ c.loop-item.invariant.together part exact;
}
