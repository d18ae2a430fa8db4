use Rattle.mob_literal.proofs.slicing.drawn.Goals as goal

pub of-requires : goal.of-requires
of-requires g c = record { possible = g.met.C.Course.laws.any_ends (c.requires.moves c.if-step.false) _ _ }
