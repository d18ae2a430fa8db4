use Rattle.std.proofs.Common.{◌≡◌, ◌++◌, map, drop}
use Rattle.mob_typed.specs.Selects.{output_of}
use Rattle.mob_tail.{specs.GroupedAnswers.{columns_from}, specs.GroupSteps.{column_seen}}
use Rattle.mob_tail.proofs.columns.columns_of.Given as goal

abbrev pub invariant-loop-number : goal.invariant-loop-number
invariant-loop-number l = map column_seen l.columns.items ++ columns_from l.aggs l.number (map output_of (drop l.number l.items)) ≡ columns_from l.aggs 0 (map output_of l.items)
