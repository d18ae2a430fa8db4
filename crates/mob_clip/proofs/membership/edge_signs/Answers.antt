use Rattle.mob_clip.proofs.Knowing.{if_ok}
use Rattle.mob_clip.proofs.membership.edge_signs.Goals as goal

pub returns-clause-fit : goal.returns-clause-fit
returns-clause-fit c = if_ok c.merged.result (λ m k parts a b w. k parts (c.in_ok-turn.ensures.fit parts (c.change_of.ensures.fits parts a b w.turn)) (c.in_ok-ends.ensures.fit parts a b w)) c.merged.ensures.fit
