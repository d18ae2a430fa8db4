use Rattle.std.proofs.Common.{rules}
use Rattle.mob_span.proofs.Leaving.{set_clear}
use Rattle.mob_span.proofs.set.SpanSet.meet.Goals as goal

pub shared-requires-clause-left_order : goal.shared-requires-clause-left_order
shared-requires-clause-left_order c = set_clear c.spans.result.now (search rules)

pub shared-requires-clause-right_order : goal.shared-requires-clause-right_order
shared-requires-clause-right_order c = set_clear c.spans-2.result.now (search rules)
