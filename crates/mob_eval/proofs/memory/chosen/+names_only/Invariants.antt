use Rattle.std.proofs.Common.{◌≡◌, drop, map}
use Rattle.mob_typed.specs.Trees.{typed_of, typed_trees}
use Rattle.mob_eval.specs.Remembered.{names_only, all_name_only}
use Rattle.mob_eval.proofs.memory.chosen.+names_only.Given as goal

abbrev pub invariant-loop-arg : goal.invariant-loop-arg
invariant-loop-arg l = names_only l.place (typed_of l.e) ≡ all_name_only l.place (typed_trees (map typed_of (drop l.arg-index l.arg-items)))
