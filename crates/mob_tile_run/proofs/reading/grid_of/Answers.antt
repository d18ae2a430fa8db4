use Rattle.std.proofs.Common.{inl, inr}
use Rattle.mob_ratio.proofs.Field.{not_both}
use Rattle.mob_tile_run.proofs.Numbers.{side_above}
use Rattle.mob_tile_run.proofs.reading.grid_of.Goals as goal

pub returns-clause-none : goal.returns-clause-none
returns-clause-none c = λ h g k. elim (c.new.ensures.none.0 h) [
  | inl e ↦ not_both _ _ (side_above _ c.in-Some.size c.in-Some.ensures.some) e
  | inr e ↦ not_both _ _ (side_above _ c.in-Some-side_of.width c.in-Some-side_of.ensures.some) e
]
