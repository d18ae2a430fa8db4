use Rattle.mob_frac.proofs.Machine.{nonzero}
use Rattle.mob_ratio.proofs.RatioLemmas.{den_pos}
use Rattle.mob_grid.proofs.bands.floor.Goals as goal

pub div_euclid-requires-clause-nonzero : goal.div_euclid-requires-clause-nonzero
div_euclid-requires-clause-nonzero c = nonzero c.den.result c.args.q.now.den c.den.ensures.value c.den.ensures.size (den_pos c.args.q.now)
