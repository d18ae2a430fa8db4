use Rattle.std.{specs.List.{AllZip}, proofs.Common.{take}}
use Rattle.mob_tail.specs.GroupSteps.{IsStartMemo}
use Rattle.mob_tail.proofs.group_memos.no_memos.Given as goal

abbrev pub invariant-loop-column : goal.invariant-loop-column
invariant-loop-column l = AllZip IsStartMemo (take l.column-index l.columns) l.memos.items
