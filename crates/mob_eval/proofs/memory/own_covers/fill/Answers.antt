use Rattle.mob_eval.proofs.memory.own_covers.fill.Goals as goal

pub keep-requires : goal.keep-requires
keep-requires g c = record { told = (c.args.value.now, c.requires.told, rw c.in-MovingPoint.is c.in-Ok.ensures.covers) }
