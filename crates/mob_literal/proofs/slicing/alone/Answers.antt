use Rattle.mob_literal.proofs.slicing.alone.Goals as goal

pub of-requires : goal.of-requires
of-requires g c = record { possible = rw c.in_ok-end.ensures.same (g.met.C.Course.laws.can_level _) }
