use Rattle.std.proofs.Common.{◌≡◌, map, take}
use Rattle.mob_shell.specs.Runs.{constant_value}
use Rattle.mob_shell.proofs.statements.rows.row_of.Given as goal

abbrev pub invariant-loop-number : goal.invariant-loop-number
invariant-loop-number l = l.row.items ≡ map (constant_value l.consts) (take l.number-index l.numbers)
