use Rattle.mob_clip.{specs.Signs.{signs_on}, proofs.Knowing.{if_ok, tally_at, tally_fit}}
use Rattle.mob_clip.proofs.membership.edge_steps.Goals as goal

pub returns-clause-values : goal.returns-clause-values
returns-clause-values c = if_ok c.tallied.result (λ s k t i. tally_at c.in_ok-signs.signs s t (signs_on c.args.span.now t c.args.edge.now) k.0 k.1 (c.in_ok-signs.ensures.values t i)) c.tallied.ensures.tallied

pub returns-clause-fit : goal.returns-clause-fit
returns-clause-fit c = if_ok c.tallied.result (λ s k parts a b w. tally_fit c.in_ok-signs.signs s parts k.1 (c.in_ok-signs.ensures.fit parts a b w)) c.tallied.ensures.tallied
