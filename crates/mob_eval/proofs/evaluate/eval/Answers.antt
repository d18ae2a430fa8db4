use Rattle.std.proofs.lemmas.Result.{err_from_is_err_and}
use Rattle.mob_eval.proofs.evaluate.eval.Goals as goal

pub returns-in_err-held-clause-fault : goal.returns-in_err-held-clause-fault
returns-in_err-held-clause-fault c = let p = err_from_is_err_and c.from_residual.result c.from_residual.ensures.1 in rw (p.1, p.2) c.in_err-held.ensures.fault
