use Rattle.std.{specs.List.{AllByRecursion}, proofs.Common.{◌≡◌, length}}
use Rattle.mob_tail.specs.GroupSteps.{IsStartGroup}
use Rattle.mob_tail.proofs.group_memos.no_groups.Given as goal

abbrev pub invariant-loop : goal.invariant-loop
invariant-loop l = record {
  start : AllByRecursion (IsStartGroup l.columns) l.groups.items;
  count : length l.groups.items ≡ l.counter;
}
