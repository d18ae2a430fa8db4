use Rattle.std.proofs.Common.{◌≡◌, drop, map}
use Rattle.mob_typed.specs.Trees.{typed_of}
use Rattle.mob_eval.proofs.memory.chosen.+are_same.Given as goal

abbrev pub invariant-loop-arg : goal.invariant-loop-arg
invariant-loop-arg l = map typed_of (drop l.arg-index l.arg-items) ≡ map typed_of l.rest → typed_of l.one ≡ typed_of l.other
