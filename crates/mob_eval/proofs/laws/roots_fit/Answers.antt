use Rattle.mob_eval.proofs.Fitting.{roots_fit as fit}
use Rattle.mob_eval.proofs.laws.roots_fit.Goals as goal

pub returns : goal.returns
returns c = record { fit = fit }
