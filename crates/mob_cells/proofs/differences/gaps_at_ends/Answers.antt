use Rattle.std.proofs.lemmas.Result.{err_from_is_err_and}
use Rattle.mob_slice.specs.Sides.{piece_of}
use Rattle.mob_cells.proofs.AtEnds.{left_fails, right_fails, lower_fails, upper_fails, all_fit, both_ends}
use Rattle.mob_cells.proofs.differences.gaps_at_ends.Goals as goal

pub returns-in_err-left-clause-first : goal.returns-in_err-left-clause-first
returns-in_err-left-clause-first g c =
    let p = err_from_is_err_and c.from_residual.result c.from_residual.ensures.1 in
    rw (p.1, p.2) (left_fails g.C.Course.value_of g.C.Course.parts_of g.C.Compared.gaps_of (piece_of c.args.piece.now) c.in_err-left.field-0.0 c.in_err-left.ensures.slice)

pub returns-in_err-right-clause-first : goal.returns-in_err-right-clause-first
returns-in_err-right-clause-first g c =
    let p = err_from_is_err_and c.from_residual-in_err-right.result c.from_residual-in_err-right.ensures.1 in
    rw (p.1, p.2) (right_fails g.C.Course.value_of g.C.Course.parts_of g.C.Compared.gaps_of (piece_of c.args.piece.now) c.in_err-right.field-0.0 c.in_err-right.ensures.slice)

pub returns-in_err-at_lower-clause-first : goal.returns-in_err-at_lower-clause-first
returns-in_err-at_lower-clause-first g c =
    let p = err_from_is_err_and c.from_residual-in_err-at_lower.result c.from_residual-in_err-at_lower.ensures.1 in
    let h = c.in_ok-left.ensures.slice in
    let k = c.in_ok-right.ensures.slice in
    rw (p.1, p.2) (lower_fails g.C.Course.value_of g.C.Course.parts_of g.C.Compared.gaps_of (piece_of c.args.piece.now) c.in_ok-left.left c.in_ok-right.right h.0 k.0 h.1 k.1 c.in_err-at_lower.field-0.0
    (rw (c.start.ensures.limit, c.start-2.ensures.limit) at c.in_err-at_lower.ensures.gaps))

pub returns-in_err-at_upper-clause-first : goal.returns-in_err-at_upper-clause-first
returns-in_err-at_upper-clause-first g c =
    let p = err_from_is_err_and c.from_residual-in_err-at_upper.result c.from_residual-in_err-at_upper.ensures.1 in
    let h = c.in_ok-left.ensures.slice in
    let k = c.in_ok-right.ensures.slice in
    rw (p.1, p.2) (upper_fails g.C.Course.value_of g.C.Course.parts_of g.C.Compared.gaps_of (piece_of c.args.piece.now) c.in_ok-left.left c.in_ok-right.right h.0 k.0 h.1 k.1 c.in_err-at_upper.field-0.0
    (rw (c.end.ensures.limit, c.end-2.ensures.limit) at c.in_err-at_upper.ensures.gaps))

pub returns-clause-first : goal.returns-clause-first
returns-clause-first g c =
    let h = c.in_ok-left.ensures.slice in
    let k = c.in_ok-right.ensures.slice in
    let a = rw (c.start.ensures.limit, c.start-2.ensures.limit) at c.in_ok-at_lower.ensures.gaps in
    let b = rw (c.end.ensures.limit, c.end-2.ensures.limit) at c.in_ok-at_upper.ensures.gaps in
    all_fit g.C.Course.value_of g.C.Course.parts_of g.C.Compared.gaps_of (piece_of c.args.piece.now) c.in_ok-left.left c.in_ok-right.right h.0 k.0 h.1 k.1 a.1 b.1

pub returns-clause-gaps : goal.returns-clause-gaps
returns-clause-gaps g c =
    let h = c.in_ok-left.ensures.slice in
    let k = c.in_ok-right.ensures.slice in
    let a = rw (c.start.ensures.limit, c.start-2.ensures.limit) at c.in_ok-at_lower.ensures.gaps in
    let b = rw (c.end.ensures.limit, c.end-2.ensures.limit) at c.in_ok-at_upper.ensures.gaps in
    both_ends g.C.Course.value_of g.C.Course.parts_of g.C.Compared.gaps_of (piece_of c.args.piece.now) c.in_ok-left.left c.in_ok-right.right h.0 k.0 h.1 k.1 c.in_ok-at_lower.at_lower c.in_ok-at_upper.at_upper a.0 b.0
