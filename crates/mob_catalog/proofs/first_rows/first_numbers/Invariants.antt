use Rattle.std.proofs.Common.{◌≡◌}
use Rattle.mob_catalog.specs.Kept.{numbers_from}
use Rattle.mob_catalog.proofs.first_rows.first_numbers.Given as goal

abbrev pub invariant-loop-number : goal.invariant-loop-number
invariant-loop-number l = l.numbers.items ≡ numbers_from 0 l.number
