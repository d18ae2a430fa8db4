use Rattle.std.proofs.Common.{◌≡◌, ◌++◌, ◌-◌, [], drop, map, length}
use Rattle.mob_load.specs.Checks.{check_seen, in_order}
use Rattle.mob_load.proofs.order.push_rest.Given as goal

abbrev pub invariant-loop-at : goal.invariant-loop-at
invariant-loop-at l = map check_seen l.done.items ++ in_order [] (drop l.at l.literals) ≡ map check_seen l.initial.done.items ++ in_order [] (drop l.put l.literals)

abbrev pub decreases-loop-at : goal.decreases-loop-at
decreases-loop-at l = length l.literals - l.at
