use Rattle.std.proofs.lemmas.Result.{err_from_is_err_and}
use Rattle.mob_legs.{specs.Legs.{foot_of, foot_square, square_quotients}, proofs.Formulas.{foot_unfit, foot_last}}
use Rattle.mob_near.proofs.foot.square_between.Goals as goal

pub returns-in_err-foot : goal.returns-in_err-foot
returns-in_err-foot c =
    let p = err_from_is_err_and c.from_residual-in_err-foot.result c.from_residual-in_err-foot.ensures.1 in
    let g = c.args.leg.now in
    record { value = rw p.1 (foot_unfit g.x0 g.y0 g.x1 g.y1 c.in_ok-ex.ex c.in_ok-ey.ey (square_quotients (foot_of g)) c.in_ok-ex.ensures.exact.0 c.in_ok-ey.ensures.exact.0 c.in_err-foot.ensures.value) }

pub returns : goal.returns
returns c =
    let g = c.args.leg.now in
    record { value = foot_last g.x0 g.y0 g.x1 g.y1 c.in_ok-ex.ex c.in_ok-ey.ey c.in_ok-foot.foot square_quotients foot_square _ c.in_ok-ex.ensures.exact c.in_ok-ey.ensures.exact c.in_ok-foot.ensures.value c.foot_square.ensures.value }
