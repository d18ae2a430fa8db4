use Rattle.mob_ordinary.proofs.Spans.{sets_test}
use Rattle.mob_ordinary.proofs.comparison.same_set.Goals as goal

pub returns : goal.returns
returns c = record { exact = sets_test c.args.left.now c.args.right.now c.spans.result.now c.spans-2.result.now c.same_spans.result c.spans.ensures.same c.spans-2.ensures.same c.spans.ensures.normal c.spans-2.ensures.normal c.same_spans.ensures.exact }
