use Rattle.std.proofs.Common.{◌≡◌, ◌++◌, map, take}
use Rattle.mob_arrange.specs.RowValues.{row_value}
use Rattle.mob_arrange.proofs.numbers.Numbers.push_all.Given as goal

abbrev pub invariant-loop-value : goal.invariant-loop-value
invariant-loop-value l = l.self ≡ l.fn.self ++ map row_value (take l.value-index l.values)
