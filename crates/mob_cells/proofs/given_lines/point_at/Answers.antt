use Rattle.std.proofs.lemmas.Result.{err_from_is_err_and}
use Rattle.mob_frac.proofs.Fitting.{all_both}
use Rattle.mob_slice.specs.Numbers.{line_numbers}
use Rattle.mob_cells.proofs.HeldNumbers.{back_fails, front_fails}
use Rattle.mob_cells.proofs.given_lines.point_at.Goals as goal

pub returns-in_err-x : goal.returns-in_err-x
returns-in_err-x c =
    let p = err_from_is_err_and c.from_residual.result c.from_residual.ensures.1 in
    let s = c.args.line.now in
    let l = c.args.l.now in
    let u = c.args.u.now in
    let t = c.args.t.now in
    record { made = rw (p.1, p.2) (front_fails (line_numbers s.from.x s.to.x l u t) (line_numbers s.from.y s.to.y l u t) c.in_err-x.field-0.0 c.in_err-x.ensures.made) }

pub returns-in_err-y : goal.returns-in_err-y
returns-in_err-y c =
    let p = err_from_is_err_and c.from_residual-in_err-y.result c.from_residual-in_err-y.ensures.1 in
    let s = c.args.line.now in
    let l = c.args.l.now in
    let u = c.args.u.now in
    let t = c.args.t.now in
    record { made = rw (p.1, p.2) (back_fails (line_numbers s.from.x s.to.x l u t) (line_numbers s.from.y s.to.y l u t) c.in_err-y.field-0.0 c.in_err-y.ensures.made) }

pub returns : goal.returns
returns c =
    let s = c.args.line.now in
    let l = c.args.l.now in
    let u = c.args.u.now in
    let t = c.args.t.now in
    record { made = (λ i. record { x = c.in_ok-x.ensures.made.0 i; y = c.in_ok-y.ensures.made.0 i }, all_both (line_numbers s.from.x s.to.x l u t) (line_numbers s.from.y s.to.y l u t) c.in_ok-x.ensures.made.1 c.in_ok-y.ensures.made.1) }
