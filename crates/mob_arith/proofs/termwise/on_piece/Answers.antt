use Rattle.std.{proofs.Common.{refl}, proofs.lemmas.Result.{err_from_is_err_and}}
use Rattle.mob_frac.proofs.Fitting.{all_first, all_second}
use Rattle.mob_slice.specs.Sides.{piece_of, side_at, side_of}
use Rattle.mob_lift.{specs.Given.{on_sides}, proofs.OnPieces.{on_one}}
use Rattle.mob_arith.{specs.Termwise.{entries_at_ends}, proofs.Terms.{left_fails, right_fails, limits_fail, all_fit, has_values}}
use Rattle.mob_arith.proofs.termwise.on_piece.Goals as goal

pub returns-in_err-left : goal.returns-in_err-left
returns-in_err-left g c =
    let p = err_from_is_err_and c.from_residual.result c.from_residual.ensures.1 in
    record { given = rw (p.1, p.2) (left_fails g.A.Course.value_of g.A.Course.parts_of g.B.Course.value_of g.B.Course.parts_of g.O.Termwise.parts (piece_of c.args.piece.now) g.A.Course.copy_allocates c.in_err-left.field-0.0 c.in_err-left.ensures.slice) }

pub returns-in_err-right : goal.returns-in_err-right
returns-in_err-right g c =
    let p = err_from_is_err_and c.from_residual-in_err-right.result c.from_residual-in_err-right.ensures.1 in
    record { given = rw (p.1, p.2) (right_fails g.A.Course.value_of g.A.Course.parts_of g.B.Course.value_of g.B.Course.parts_of g.O.Termwise.parts (piece_of c.args.piece.now) g.B.Course.copy_allocates c.in_err-right.field-0.0 c.in_err-right.ensures.slice) }

pub returns-in-Err : goal.returns-in-Err
returns-in-Err g c =
    let h = c.in_ok-left.ensures.slice in
    let k = c.in_ok-right.ensures.slice in
    let fault = c.in-Err.ensures.course in
    record { given = limits_fail g.A.Course.value_of g.A.Course.parts_of g.B.Course.value_of g.B.Course.parts_of g.O.Termwise.parts (piece_of c.args.piece.now) h.1 k.1 c.in-Err.formula _ _ _ _ h.0.from k.0.from h.0.to k.0.to fault.0 fault.1 }

pub returns : goal.returns
returns g c =
    let h = c.in_ok-left.ensures.slice in
    let k = c.in_ok-right.ensures.slice in
    let l = c.in_ok-left.left.course in
    let r = c.in_ok-right.right.course in
    let from = g.O.Termwise.op (g.A.Course.start_of l) (g.B.Course.start_of r) in
    let to = g.O.Termwise.op (g.A.Course.end_of l) (g.B.Course.end_of r) in
    let first = g.O.Termwise.parts (g.A.Course.start_of l) (g.B.Course.start_of r) in
    let last = g.O.Termwise.parts (g.A.Course.end_of l) (g.B.Course.end_of r) in
    let made = c.in-Ok.ensures.course in
    record {
      given = on_one g.D.Course.value_of g.D.Course.start_of g.D.Course.end_of (λ v. v.items) (on_sides g.A.Course.value_of g.B.Course.value_of g.O.Termwise.op (piece_of c.args.piece.now)) c.args.piece.now.span (entries_at_ends g.A.Course.value_of g.A.Course.parts_of g.B.Course.value_of g.B.Course.parts_of g.O.Termwise.parts (piece_of c.args.piece.now)) c.listed.result (g.D.Course.make from to) c.in-Ok.course made.0
          (has_values g.met.D.Course.laws g.A.Course.value_of g.A.Course.start_of g.A.Course.end_of g.B.Course.value_of g.B.Course.start_of g.B.Course.end_of g.O.Termwise.op g.met.O.Termwise.law (side_at g.A.Course.value_of (side_of c.args.piece.now.left)) (side_at g.B.Course.value_of (side_of c.args.piece.now.right)) c.args.piece.now.span c.in_ok-left.left c.in_ok-right.right h.0 k.0 from to refl refl c.lower.ensures.some)
          (all_fit g.A.Course.value_of g.A.Course.parts_of g.B.Course.value_of g.B.Course.parts_of g.O.Termwise.parts (piece_of c.args.piece.now) h.1 k.1 (g.A.Course.start_of l) (g.B.Course.start_of r) (g.A.Course.end_of l) (g.B.Course.end_of r) h.0.from k.0.from h.0.to k.0.to (all_first first last made.1) (all_second first last made.1)) c.listed.ensures.one;
    }
