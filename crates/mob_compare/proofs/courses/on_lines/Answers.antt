use Rattle.std.proofs.lemmas.Result.{err_from_is_err_and}
use Rattle.mob_slice.specs.Sides.{piece_of}
use Rattle.mob_compare.proofs.Comparing.{left_fails, right_fails, gaps_fail, lines_given}
use Rattle.mob_compare.proofs.courses.on_lines.Goals as goal

pub returns-in_err-left : goal.returns-in_err-left
returns-in_err-left g c =
    let p = err_from_is_err_and c.from_residual.result c.from_residual.ensures.1 in
    record { given = rw (p.1, p.2) (left_fails g.C.Course.value_of g.C.Course.parts_of g.C.Compared.gaps_of (piece_of c.args.piece.now) g.C.Course.copy_allocates c.in_err-left.field-0.0 c.in_err-left.ensures.slice) }

pub returns-in_err-right : goal.returns-in_err-right
returns-in_err-right g c =
    let p = err_from_is_err_and c.from_residual-in_err-right.result c.from_residual-in_err-right.ensures.1 in
    record { given = rw (p.1, p.2) (right_fails g.C.Course.value_of g.C.Course.parts_of g.C.Compared.gaps_of (piece_of c.args.piece.now) g.C.Course.copy_allocates c.in_err-right.field-0.0 c.in_err-right.ensures.slice) }

pub returns-in_err-functions : goal.returns-in_err-functions
returns-in_err-functions g c =
    let p = err_from_is_err_and c.from_residual-in_err-functions.result c.from_residual-in_err-functions.ensures.1 in
    let h = c.in_ok-left.ensures.slice in
    let k = c.in_ok-right.ensures.slice in
    record {
      given = rw (p.1, p.2) (gaps_fail g.C.Course.value_of g.C.Course.parts_of g.C.Compared.gaps_of (piece_of c.args.piece.now) c.in_ok-left.left c.in_ok-right.right h.0 k.0 h.1 k.1 c.in_err-functions.field-0.0
          (rw (c.start.ensures.limit, c.start-2.ensures.limit, c.end.ensures.limit, c.end-2.ensures.limit) at c.in_err-functions.ensures.functions));
    }

pub returns : goal.returns
returns g c =
    let h = c.in_ok-left.ensures.slice in
    let k = c.in_ok-right.ensures.slice in
    let f = rw (c.start.ensures.limit, c.start-2.ensures.limit, c.end.ensures.limit, c.end-2.ensures.limit) at c.in_ok-functions.ensures.functions in
    record { given = lines_given g.C.Course.value_of g.C.Course.parts_of g.C.Compared.gaps_of (piece_of c.args.piece.now) c.in_ok-left.left c.in_ok-right.right h.0 k.0 h.1 k.1 g.met.C.Compared.laws c.requires.moves c.args.rel c.requires.asked c.in_ok-functions.functions.items f.0 f.1 (λ v. v.items) c.flagged.result c.flagged.ensures.flags }
