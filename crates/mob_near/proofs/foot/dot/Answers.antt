use Rattle.mob_legs.proofs.Formulas.{dot_last}
use Rattle.mob_near.proofs.foot.dot.Goals as goal

pub returns : goal.returns
returns c = record { value = dot_last _ _ _ _ _ c.in_ok-p.p c.in_ok-q.q c.in_ok-p.ensures.exact c.in_ok-q.ensures.exact c.add.ensures.exact }
