use Rattle.std.proofs.Common.{◌≡◌, drop, map}
use Rattle.mob_operators.specs.Lookup.{operator_named}
use Rattle.mob_operators.proofs.lookup.operator_named.Given as goal

abbrev pub invariant-loop-other : goal.invariant-loop-other
invariant-loop-other l = operator_named (map (λ n. (n.0.now, n.1)) (drop l.other-index l.names)) l.name ≡ operator_named (map (λ n. (n.0.now, n.1)) l.names) l.name
