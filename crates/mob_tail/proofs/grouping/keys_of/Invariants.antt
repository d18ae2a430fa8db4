use Rattle.std.proofs.Common.{◌≡◌, map, take}
use Rattle.mob_typed.specs.Selects.{select_seen}
use Rattle.mob_tail.specs.Groups.{group_fields}
use Rattle.mob_tail.proofs.grouping.keys_of.Given as goal

abbrev pub invariant-loop-tuple : goal.invariant-loop-tuple
invariant-loop-tuple l = l.keys.items ≡ map (group_fields (select_seen l.select) l.store l.terms) (take l.tuple-index l.kept)
