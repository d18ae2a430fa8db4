use Rattle.mob_tagg.proofs.again.limits_copied.Goals as goal

pub of-requires : goal.of-requires
of-requires g c = record { possible = rw (c.in-Ok.ensures.same, c.in-Ok-copy_base.ensures.same) c.requires.possible }
