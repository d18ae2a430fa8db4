use Rattle.std.{specs.List.{AllZip}, specs.Vec.Iter.{into_iter_items, into_iter_len}, proofs.Common.{◌≡◌, List, ℕ, length}}
use Rattle.mob_typed.specs.Selects.{select_seen}
use Rattle.mob_tail.{specs.AnswerRows.{IsGroupRowOf}, specs.GroupSteps.{IsGroupOf}, proofs.MadeSoFar.{IsMadeSoFar}}
use Rattle.mob_tail.proofs.grouping.rows_of.Given as goal

abbrev pub invariant-loop-group : goal.invariant-loop-group
invariant-loop-group l = record {
  goes : goal.iterator-loop-group.can_next l.group-iterator;
  ends : goal.iterator-loop-group.is_finite l.group-iterator;
  counted : into_iter_len l.group-iterator ≡ length (into_iter_items l.group-iterator);
  made : (all : List (List (List ℕ))) → AllZip (IsGroupOf (select_seen l.select) l.store l.terms) all l.fn.groups.items → IsMadeSoFar (IsGroupOf (select_seen l.select) l.store l.terms) (IsGroupRowOf (select_seen l.select) l.store l.terms) all l.rows.items (into_iter_items l.group-iterator);
}
