use Rattle.std.{specs.Vec.Iter.{into_iter_items, into_iter_len}, proofs.Common.{◌≡◌, length, Option, IfOk}}
use Rattle.mob_scalar.{specs.Traverse.{traverse}, proofs.Traversed.{with_list}}
use Rattle.mob_scalar.proofs.each.fitting_each.Given as goal

-- the values made so far, and those still to be made
abbrev pub invariant-loop-item : goal.invariant-loop-item
invariant-loop-item g l = record {
  goes : (goal.iterator-loop-item g).can_next l.item-iterator;
  ends : (goal.iterator-loop-item g).is_finite l.item-iterator;
  counted : into_iter_len l.item-iterator ≡ length (into_iter_items l.item-iterator);
  together : (part : _ → Option _) → ((item : _) (made : _) → goal.F-post g l.fn.fit item made → IfOk made (λ o. o ≡ part item)) → with_list l.fitting.items (traverse part (into_iter_items l.item-iterator)) ≡ traverse part l.fn.items.items;
}
