use Rattle.std.proofs.Common.{arith}
use Rattle.mob_numeral.proofs.Powers.{ten_le}
use Rattle.mob_numeral.proofs.number.ten_to.Goals as goal

pub pow-requires : goal.pow-requires
pow-requires c = let h = ten_le c.args.k 36 c.requires.fits in omega (arith, h)
