use Rattle.std.proofs.Common.{◌≡◌, ◌++◌, drop, map}
use Rattle.mob_typed.specs.Trees.{typed_of}
use Rattle.mob_typed.proofs.making.+copy_of.Given as goal

abbrev pub invariant-loop-arg : goal.invariant-loop-arg
invariant-loop-arg l = map typed_of l.arg-items ≡ map typed_of l.args.items ++ map typed_of (drop l.arg-index l.arg-items)
