use Rattle.mob_span.proofs.SpanLemmas.{has_upto_lower, has_upto_upper}
use Rattle.mob_slice.proofs.line.value_in.Goals as goal

pub interpolated-requires-clause-after : goal.interpolated-requires-clause-after
interpolated-requires-clause-after c = rw c.lower.ensures.value (has_upto_lower c.args.span.now c.args.t.now c.requires.inside)

pub interpolated-requires-clause-until : goal.interpolated-requires-clause-until
interpolated-requires-clause-until c = rw c.upper.ensures.value (has_upto_upper c.args.span.now c.args.t.now c.requires.inside)
