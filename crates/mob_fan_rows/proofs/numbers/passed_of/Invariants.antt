-- The numbers that passed and the remaining ones give the result for all of them.
use Rattle.std.proofs.Common.{◌≡◌, drop, Ok}
use Rattle.mob_fan.specs.Outcomes.{joined_outcomes}
use Rattle.mob_fan_rows.specs.Numbers.{passed}
use Rattle.mob_fan_rows.proofs.numbers.passed_of.Given as goal

abbrev pub invariant-loop-number : goal.invariant-loop-number
invariant-loop-number l = joined_outcomes (Ok l.items) (passed l.limit (drop l.number-index l.numbers)) ≡ passed l.limit l.numbers
