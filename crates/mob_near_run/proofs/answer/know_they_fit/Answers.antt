use Rattle.std.{specs.List.{AllByRecursion}, proofs.Common.{arith, subst}, proofs.lemmas.List.{take_all}}
use Rattle.mob_frac.specs.Fits.{Fits}
use Rattle.mob_knn.proofs.Scanning.{each_taken}
use Rattle.mob_near_run.proofs.answer.know_they_fit.Goals as goal

pub loop-row-preserved : goal.loop-row-preserved
loop-row-preserved c = each_taken (λ r. Fits r.1) c.args.rows.now c.loop-row.row-index c.row-item.result (omega arith) c.row-item.is c.loop-row.invariant c.knows_it_fits.ensures.fits

pub returns : goal.returns
returns c = record { fit = subst (AllByRecursion (λ r. Fits r.1)) (take_all c.loop-row.row-index c.args.rows.now (omega arith)) c.loop-row.invariant }
