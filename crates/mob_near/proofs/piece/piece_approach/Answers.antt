use Rattle.std.proofs.lemmas.Result.{err_from_is_err_and}
use Rattle.mob_frac.specs.Formula.{approach_parts}
use Rattle.mob_slice.specs.Sides.{piece_of}
use Rattle.mob_near.{specs.Entries.{parts_between}, proofs.Judging.{leg_fails, squares_fail}}
use Rattle.mob_near.proofs.piece.piece_approach.Goals as goal

pub returns-in_err-leg-clause-first : goal.returns-in_err-leg-clause-first
returns-in_err-leg-clause-first c =
    let q = err_from_is_err_and c.from_residual.result c.from_residual.ensures.1 in
    let p = piece_of c.args.piece.now in
    rw (q.1, q.2) (leg_fails p (parts_between approach_parts p) c.in_err-leg.field-0.0 c.in_err-leg.ensures.first)

pub returns-in_err-squares-clause-first : goal.returns-in_err-squares-clause-first
returns-in_err-squares-clause-first c =
    let q = err_from_is_err_and c.from_residual-in_err-squares.result c.from_residual-in_err-squares.ensures.1 in
    let p = piece_of c.args.piece.now in
    rw (q.1, q.2) (squares_fail p (parts_between approach_parts p) c.in_ok-leg.ensures.first c.in_ok-leg.leg c.in_ok-leg.ensures.leg c.in_err-squares.field-0.0 c.in_err-squares.ensures.value)
