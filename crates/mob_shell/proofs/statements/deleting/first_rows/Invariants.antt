use Rattle.std.proofs.Common.{◌≡◌, take}
use Rattle.mob_join.specs.Deleted.{first_rows}
use Rattle.mob_shell.proofs.statements.deleting.first_rows.Given as goal

abbrev pub invariant-loop-tuple : goal.invariant-loop-tuple
invariant-loop-tuple l = l.rows.items ≡ first_rows (take l.tuple-index l.kept)
