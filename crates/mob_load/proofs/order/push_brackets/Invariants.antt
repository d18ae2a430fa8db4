use Rattle.std.proofs.Common.{◌≡◌, ◌++◌, List, drop, map}
use Rattle.mob_load.specs.Checks.{Checkpoint, check_seen, bracket, in_order}
use Rattle.mob_load.proofs.order.push_brackets.Given as goal

abbrev pub invariant-loop-place : goal.invariant-loop-place
invariant-loop-place l = (ms : List Checkpoint) →
    map check_seen l.done.items ++ in_order (map (bracket l.table l.statement) (drop l.place-index l.places) ++ ms) (drop l.at l.literals)
    ≡ map check_seen l.initial.done.items ++ in_order (map (bracket l.table l.statement) l.places ++ ms) (drop l.put l.literals)
