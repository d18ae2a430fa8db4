use Rattle.std.{specs.Vec.Iter.{into_iter_items, into_iter_len}, proofs.Common.{◌≡◌, ◌++◌, length, map}}
use Rattle.mob_arrange.specs.RowValues.{row_value}
use Rattle.mob_tail.proofs.grouping.row_values.Given as goal

abbrev pub invariant-loop-value : goal.invariant-loop-value
invariant-loop-value l = record {
  goes : goal.iterator-loop-value.can_next l.value-iterator;
  ends : goal.iterator-loop-value.is_finite l.value-iterator;
  counted : into_iter_len l.value-iterator ≡ length (into_iter_items l.value-iterator);
  same : map row_value l.held.items ++ into_iter_items l.value-iterator ≡ l.fn.values.items;
}
