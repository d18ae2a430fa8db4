use Rattle.std.proofs.Common.{◌≡◌, ◌++◌, ◌-◌, List, drop, map, length}
use Rattle.mob_typed.specs.declared.typed.ConstText.{ConstText}
use Rattle.mob_load.specs.Checks.{CheckParts, check_seen, checkpoint, checks_up_to}
use Rattle.mob_load.proofs.order.push_literals.Given as goal

abbrev pub invariant-loop-at : goal.invariant-loop-at
invariant-loop-at l = (next : List ConstText → List CheckParts) (check : CheckParts) →
    map check_seen l.done.items ++ checks_up_to next (checkpoint l.statement l.place check) (drop l.at l.literals)
    ≡ map check_seen l.initial.done.items ++ checks_up_to next (checkpoint l.statement l.place check) (drop l.put l.literals)

abbrev pub decreases-loop-at : goal.decreases-loop-at
decreases-loop-at l = length l.literals - l.at
