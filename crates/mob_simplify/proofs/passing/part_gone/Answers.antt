use Rattle.std.proofs.Common.{◌∙◌, sym}
use Rattle.mob_ratio.{proofs.Divide.{sub_ne-zero}, proofs.Order.{before-lt}}
use Rattle.mob_simplify.proofs.Reaching.{part_is}
use Rattle.mob_simplify.proofs.passing.part_gone.Goals as goal

pub div-requires : goal.div-requires
div-requires c =
    let whole = rw c.in-Ok.is at c.requires.time in
    record { nonzero = λ z. sub_ne-zero c.args.start.now c.args.end.now (before-lt _ _ c.requires.long) (sym whole.0 ∙ z) }

pub returns-in-Ok : goal.returns-in-Ok
returns-in-Ok c = record { value = part_is c.div.result c.args.start.now c.args.end.now c.args.t.now c.in_ok-gone.gone c.in-Ok.whole c.in_ok-gone.ensures.exact (rw c.in-Ok.is at c.requires.time) c.div.ensures.exact }
