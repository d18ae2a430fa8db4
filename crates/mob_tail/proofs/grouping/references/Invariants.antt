use Rattle.std.proofs.Common.{◌≡◌, map, take}
use Rattle.mob_arrange.specs.TextsSeen.{texts_of}
use Rattle.mob_tail.proofs.grouping.references.Given as goal

abbrev pub invariant-loop-key : goal.invariant-loop-key
invariant-loop-key l = map texts_of l.all.items ≡ take l.key-index l.keys
