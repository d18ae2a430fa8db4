use Rattle.mob_ordinary.proofs.Spans.{spans_test}
use Rattle.mob_ordinary.proofs.comparison.same_instants.Goals as goal

pub returns : goal.returns
returns c = record { exact = spans_test c.args.left.now c.args.right.now c.same_span.result c.lower.ensures.some c.lower-2.ensures.some c.same_span.ensures.exact }
