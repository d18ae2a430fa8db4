use Rattle.mob_frac.proofs.Machine.{nonzero}
use Rattle.mob_ratio.proofs.RatioLemmas.{den_pos}
use Rattle.mob_scalar.proofs.printing.numerator_of.Goals as goal

pub rem_euclid-requires-clause-nonzero : goal.rem_euclid-requires-clause-nonzero
rem_euclid-requires-clause-nonzero c = nonzero c.den.result c.args.t.now.den c.den.ensures.value c.den.ensures.size (den_pos c.args.t.now)
