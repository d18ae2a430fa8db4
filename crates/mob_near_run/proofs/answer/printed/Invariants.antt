use Rattle.std.{specs.List.{AllByRecursion}, proofs.Common.{◌≡◌, take}}
use Rattle.mob_frac.specs.Fits.{Fits}
use Rattle.mob_near_run.proofs.answer.printed.Given as goal

abbrev pub invariant-loop-row : goal.invariant-loop-row
invariant-loop-row l = record {
  printed : l.printed ≡ take l.row-index l.rows;
  fit : AllByRecursion (λ r. Fits r.1) (take l.row-index l.rows);
}
