use Rattle.mob_typed.specs.Selects.{select_seen}
use Rattle.mob_tail.proofs.GroupLoop.{IsGroupedSoFar}
use Rattle.mob_tail.proofs.grouping.grouped_tuples.Given as goal

abbrev pub invariant-loop-place : goal.invariant-loop-place
invariant-loop-place l = IsGroupedSoFar (select_seen l.select) l.store l.terms l.kept l.place l.groups.items
