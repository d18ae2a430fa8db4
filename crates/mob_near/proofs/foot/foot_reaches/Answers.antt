use Rattle.std.proofs.Common.{rules, ◌∙◌, sym, true≢false}
use Rattle.mob_ratio.proofs.Order.{same_exact}
use Rattle.mob_legs.proofs.Formulas.{way_is_long}
use Rattle.mob_near.proofs.foot.foot_reaches.Goals as goal

pub div-requires : goal.div-requires
div-requires c = record { nonzero = way_is_long _ _ _ c.requires.sum (search rules) }

pub div-requires-2 : goal.div-requires-2
div-requires-2 c = record { nonzero = λ z. true≢false (sym ((same_exact _ _).1 z) ∙ search rules) }
