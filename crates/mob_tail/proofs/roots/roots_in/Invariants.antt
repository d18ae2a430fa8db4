use Rattle.std.proofs.Common.{◌≡◌, ◌++◌, map, take}
use Rattle.mob_typed.specs.Selects.{output_of, key_seen}
use Rattle.mob_eval.specs.Remembered.{root_seen}
use Rattle.mob_tail.proofs.roots.roots_in.Given as goal

abbrev pub invariant-loop-key : goal.invariant-loop-key
invariant-loop-key l = map root_seen l.roots.items ≡ map (λ item. item.0) (map output_of l.items) ++ map (λ key. key.0) (map key_seen (take l.key-index l.keys))
