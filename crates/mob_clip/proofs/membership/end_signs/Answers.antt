use Rattle.std.proofs.Common.{◌∙◌}
use Rattle.mob_clip.{specs.Timelines.{timeline_at}, proofs.Knowing.{if_ok, ends_joined}}
use Rattle.mob_clip.proofs.membership.end_signs.Goals as goal

pub returns-clause-values : goal.returns-clause-values
returns-clause-values c = if_ok c.merged.result (λ m k t i. k t ∙ ends_joined c.args.span.now t c.args.edge.now (timeline_at c.in_ok-xs.xs t) (timeline_at c.in_ok-ys.ys t) (c.in_ok-xs.ensures.values t i) (c.in_ok-ys.ensures.values t i)) c.merged.ensures.values

pub returns-clause-fit : goal.returns-clause-fit
returns-clause-fit c = if_ok c.merged.result (λ m k parts a b w. k parts (c.in_ok-xs.ensures.fit parts a b w.x_a w.x_b) (c.in_ok-ys.ensures.fit parts a b w.y_a w.y_b)) c.merged.ensures.fit
