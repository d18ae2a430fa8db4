-- Results of the last piece.
use Rattle.std.specs.Prelude.{◌≡◌}
use Rattle.mob_ratio.specs.Ratio.{Ratio}
use Rattle.mob_frac.specs.Formula.{AllFit, sum_parts}
use Rattle.mob_tagg.specs.declared.again.PieceEnds.{PieceEnds}

-- the sum is that of the two values at the end of the piece, and all its parts fit
pub record IsLast {C B : Type 0} (end : C → B) (number : B → Ratio) (added : B → B → B) (e : PieceEnds C B) : Type 0 where
  pub sum : end e.sum ≡ added (end e.left.course) (end e.found.value)
  pub sum_fits : AllFit (sum_parts (number (end e.left.course)) (number (end e.found.value)))
