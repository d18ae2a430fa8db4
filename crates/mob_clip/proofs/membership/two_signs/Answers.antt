use Rattle.mob_clip.proofs.Knowing.{if_ok}
use Rattle.mob_clip.proofs.membership.two_signs.Goals as goal

pub returns-clause-fit : goal.returns-clause-fit
returns-clause-fit c = if_ok c.merged.result (λ m k parts a b x y. k parts (c.in_ok-left.ensures.fit parts (c.change_of.ensures.fits parts a b x)) (c.in_ok-right.ensures.fit parts (c.change_of-2.ensures.fits parts a b y))) c.merged.ensures.fit
