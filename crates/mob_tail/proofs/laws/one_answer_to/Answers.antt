use Rattle.mob_tail.proofs.OneAnswer.{answer_once}
use Rattle.mob_tail.proofs.laws.one_answer_to.Goals as goal

pub returns : goal.returns
returns c = record { outcome = answer_once c.one_outcome.ensures.outcome }
