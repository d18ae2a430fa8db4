use Rattle.std.proofs.Common.{sym, ◌∙◌}
use Rattle.mob_span.specs.Walk.{met_of}
use Rattle.mob_near.proofs.Stretches.{next_none, met_none}
use Rattle.mob_near.proofs.covered.share_covers.Goals as goal

pub returns : goal.returns
returns c = record { none = λ e. met_none _ _ _ _ c.new-walk.ensures.left c.new-walk.ensures.right (next_none met_of c.next.result _ _ c.next.ensures.steps (sym c.is_some.ensures ∙ e)) }
