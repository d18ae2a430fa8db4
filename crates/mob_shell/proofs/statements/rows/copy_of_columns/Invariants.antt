use Rattle.std.proofs.Common.{◌≡◌, take}
use Rattle.mob_shell.proofs.statements.rows.copy_of_columns.Given as goal

abbrev pub invariant-loop-name : goal.invariant-loop-name
invariant-loop-name l = l.copy.items ≡ take l.name-index l.columns
