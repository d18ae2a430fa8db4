use Rattle.std.proofs.Common.{take}
use Rattle.mob_near_run.specs.NearAnswers.{ArePrintable}
use Rattle.mob_near_run.proofs.answer.know_they_fit.Given as goal

abbrev pub invariant-loop-row : goal.invariant-loop-row
invariant-loop-row l = ArePrintable (take l.row-index l.rows)
