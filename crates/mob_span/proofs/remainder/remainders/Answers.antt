use Rattle.std.proofs.lemmas.Result.{IfOk-weaker}
use Rattle.mob_span.proofs.Leaving.{remainders_found, remainders_order}
use Rattle.mob_span.proofs.remainder.remainders.Goals as goal

pub returns-clause-instants : goal.returns-clause-instants
returns-clause-instants c = IfOk-weaker c.left_by.result _ _ (λ v e. remainders_found c.args.span.now c.args.spans.now v.items e c.requires.order) c.left_by.ensures.ends

pub returns-clause-order : goal.returns-clause-order
returns-clause-order c = IfOk-weaker c.left_by.result _ _ (λ v e. remainders_order c.args.span.now c.args.spans.now v.items e c.lower.ensures.some c.requires.order) c.left_by.ensures.ends
