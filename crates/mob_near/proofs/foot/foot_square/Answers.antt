use Rattle.std.proofs.Common.{rules}
use Rattle.mob_legs.proofs.Formulas.{way_is_long}
use Rattle.mob_near.proofs.foot.foot_square.Goals as goal

pub div-requires : goal.div-requires
div-requires c = record { nonzero = way_is_long _ _ _ c.requires.sum (search rules) }
