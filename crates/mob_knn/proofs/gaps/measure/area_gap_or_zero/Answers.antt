use Rattle.std.proofs.Common.{◌∙◌}
use Rattle.mob_knn.proofs.Fitting.{found_exact, found_none}
use Rattle.mob_knn.proofs.gaps.measure.area_gap_or_zero.Goals as goal

pub returns-in-Ok : goal.returns-in-Ok
returns-in-Ok c = record { value = found_exact _ _ _ c.in-Ok.ensures.value }

pub returns-in-Err : goal.returns-in-Err
returns-in-Err c = record { value = c.zero.ensures.value ∙ found_none _ _ c.in-Err.ensures.value }
