use Rattle.mob_tail.proofs.StateSteps.{counts_step, counts_same}
use Rattle.mob_tail.proofs.state.counts_in.Goals as goal

pub returns-in-Ok-Some : goal.returns-in-Ok-Some
returns-in-Ok-Some c = record { with = λ ty. counts_step ty c.args.parts.now c.part_in.new.parts c.args.value.now c.in-Ok-Some.ones c.part_in.result ((rw c.in-Ok-Some.field-0-is at c.in-Ok-Some.ensures.ones) ty) c.part_in.ensures.more c.part_in.ensures.memory }

pub returns-in-Ok-None : goal.returns-in-Ok-None
returns-in-Ok-None c = record { with = λ ty. counts_same ty c.args.parts.now c.args.value.now ((rw c.in-Ok-None.field-0-is at c.in-Ok-None.ensures.ones) ty) }
