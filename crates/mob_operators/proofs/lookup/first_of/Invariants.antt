use Rattle.std.proofs.Common.{◌≡◌, drop}
use Rattle.mob_operators.specs.Lookup.{lines_of, found_in}
use Rattle.mob_operators.proofs.lookup.first_of.Given as goal

abbrev pub invariant-loop-row : goal.invariant-loop-row
invariant-loop-row l = found_in (lines_of (drop l.row-index l.rows)) l.form l.name l.types l.by_literal ≡ found_in (lines_of l.rows) l.form l.name l.types l.by_literal
