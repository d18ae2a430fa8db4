use Rattle.std.{proofs.Common.{◌∙◌}, proofs.lemmas.Int.{to_z-of_z}}
use Rattle.mob_compare.proofs.SmallGaps.{ratio_fits, ratio_whole}
use Rattle.mob_compare.proofs.ever.small.whole.Goals as goal

pub unreachable-requires : goal.unreachable-requires
unreachable-requires c = c.in-Err.ensures.exact (simp (to_z-of_z, c.ranges.number) (ratio_fits c.args.number c.requires.fits))

pub returns : goal.returns
returns c = record { value = (simp (to_z-of_z, c.ranges.number) at c.in-Ok.ensures.exact.0) ∙ ratio_whole c.args.number }
