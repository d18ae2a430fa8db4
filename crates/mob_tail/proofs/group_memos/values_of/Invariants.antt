use Rattle.std.{specs.List.{AllZip}, specs.Vec.Iter.{into_iter_items, into_iter_len}, proofs.Common.{◌≡◌, List, length}}
use Rattle.mob_value.specs.declared.value.Value.{Value}
use Rattle.mob_tail.{specs.GroupSteps.{IsMemoKept}, proofs.MadeSoFar.{IsMadeSoFar}}
use Rattle.mob_tail.proofs.group_memos.values_of.Given as goal

abbrev pub invariant-loop-memo : goal.invariant-loop-memo
invariant-loop-memo l = record {
  goes : goal.iterator-loop-memo.can_next l.memo-iterator;
  ends : goal.iterator-loop-memo.is_finite l.memo-iterator;
  counted : into_iter_len l.memo-iterator ≡ length (into_iter_items l.memo-iterator);
  made : (all : List Value) → AllZip IsMemoKept all l.fn.memos.items → IsMadeSoFar IsMemoKept (λ r v. v ≡ r) all l.values.items (into_iter_items l.memo-iterator);
}
