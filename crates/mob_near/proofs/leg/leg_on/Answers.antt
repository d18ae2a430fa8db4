use Rattle.std.proofs.lemmas.Result.{err_from_is_err_and}
use Rattle.mob_slice.{specs.LineComparison.{point_gaps}, specs.Lines.{plane_value_of, plane_parts_of}, specs.Sides.{piece_of}}
use Rattle.mob_cells.proofs.AtEnds.{left_fails, right_fails}
use Rattle.mob_near.proofs.Judging.{leg_decided}
use Rattle.mob_near.proofs.leg.leg_on.Goals as goal

pub returns-in_err-left-clause-first : goal.returns-in_err-left-clause-first
returns-in_err-left-clause-first c =
    let p = err_from_is_err_and c.from_residual.result c.from_residual.ensures.1 in
    rw (p.1, p.2) (left_fails plane_value_of plane_parts_of point_gaps (piece_of c.args.piece.now) c.in_err-left.field-0.0 c.in_err-left.ensures.ends)

pub returns-in_err-right-clause-first : goal.returns-in_err-right-clause-first
returns-in_err-right-clause-first c =
    let p = err_from_is_err_and c.from_residual-in_err-right.result c.from_residual-in_err-right.ensures.1 in
    rw (p.1, p.2) (right_fails plane_value_of plane_parts_of point_gaps (piece_of c.args.piece.now) c.in_err-right.field-0.0 c.in_err-right.ensures.ends)

pub returns-clause-first : goal.returns-clause-first
returns-clause-first c = leg_decided (piece_of c.args.piece.now) c.in_ok-left.left c.in_ok-right.right c.in_ok-left.ensures.ends c.in_ok-right.ensures.ends c.leg_between.result c.leg_between.ensures.leg
