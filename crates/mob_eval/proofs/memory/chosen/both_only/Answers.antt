use Rattle.mob_typed.specs.Trees.{typed_of}
use Rattle.mob_eval.proofs.Choosing.{copies_both}
use Rattle.mob_eval.proofs.memory.chosen.both_only.Goals as goal

pub returns-then-are_same : goal.returns-then-are_same
returns-then-are_same c = record { both = λ es fs h k. copies_both (typed_of c.args.one.now) (typed_of c.args.other.now) es fs (c.are_same.ensures.same c.if-are_same.true) h k }
