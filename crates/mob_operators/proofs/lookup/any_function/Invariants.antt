use Rattle.std.proofs.Common.{◌≡◌, drop}
use Rattle.mob_operators.specs.Lookup.{lines_of, has_function}
use Rattle.mob_operators.proofs.lookup.any_function.Given as goal

abbrev pub invariant-loop-row : goal.invariant-loop-row
invariant-loop-row l = has_function (lines_of (drop l.row-index l.rows)) l.name ≡ has_function (lines_of l.rows) l.name
