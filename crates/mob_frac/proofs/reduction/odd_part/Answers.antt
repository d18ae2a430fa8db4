use Rattle.mob_frac.proofs.Twos.{odd_part_is}
use Rattle.mob_frac.proofs.reduction.odd_part.Goals as goal

pub returns-clause-odd : goal.returns-clause-odd
returns-clause-odd c = (odd_part_is c.args.a c.requires.positive c.ranges.a.fits).0

pub returns-clause-twos : goal.returns-clause-twos
returns-clause-twos c = (odd_part_is c.args.a c.requires.positive c.ranges.a.fits).1
