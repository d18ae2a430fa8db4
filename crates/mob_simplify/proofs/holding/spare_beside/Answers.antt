use Rattle.std.proofs.Common.{sym, ◌∙◌}
use Rattle.mob_ratio.{proofs.Divide.{sub_ne-zero}, proofs.Order.{before-lt}}
use Rattle.mob_simplify.proofs.holding.spare_beside.Goals as goal

pub div-requires : goal.div-requires
div-requires c =
    let p = c.args.p.now.instant in
    let q = c.args.q.now.instant in
    record { nonzero = λ z. sub_ne-zero p q (before-lt p q c.requires.after) (sym c.in_ok-whole.ensures.exact.0 ∙ z) }
