use Rattle.mob_legs.proofs.Formulas.{cross_last}
use Rattle.mob_near.proofs.foot.cross.Goals as goal

pub returns : goal.returns
returns c = record { value = cross_last _ _ _ _ _ c.in_ok-p.p c.in_ok-q.q c.in_ok-p.ensures.exact c.in_ok-q.ensures.exact c.sub.ensures.exact }
