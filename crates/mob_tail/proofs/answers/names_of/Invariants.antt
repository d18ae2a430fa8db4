use Rattle.std.proofs.Common.{◌≡◌, map, take}
use Rattle.mob_typed.specs.Selects.{output_of}
use Rattle.mob_tail.proofs.answers.names_of.Given as goal

abbrev pub invariant-loop-item : goal.invariant-loop-item
invariant-loop-item l = l.names ≡ map (λ item. item.1) (map output_of (take l.item-index l.items))
