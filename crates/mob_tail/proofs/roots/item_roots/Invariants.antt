use Rattle.std.proofs.Common.{◌≡◌, map, take}
use Rattle.mob_typed.specs.Selects.{output_of}
use Rattle.mob_eval.specs.Remembered.{root_seen}
use Rattle.mob_tail.proofs.roots.item_roots.Given as goal

abbrev pub invariant-loop-item : goal.invariant-loop-item
invariant-loop-item l = map root_seen l.roots.items ≡ map (λ item. item.0) (map output_of (take l.item-index l.items))
