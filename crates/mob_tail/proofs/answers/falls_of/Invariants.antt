use Rattle.std.proofs.Common.{◌≡◌, map, take}
use Rattle.mob_typed.specs.Selects.{key_seen}
use Rattle.mob_tail.proofs.answers.falls_of.Given as goal

abbrev pub invariant-loop-key : goal.invariant-loop-key
invariant-loop-key l = l.falls.items ≡ map (λ key. key.1) (map key_seen (take l.key-index l.keys))
