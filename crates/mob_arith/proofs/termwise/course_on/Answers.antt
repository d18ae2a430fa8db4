use Rattle.std.{proofs.Common.{ap, ◌∙◌}, proofs.lemmas.Result.{err_from_is_err_and}}
use Rattle.mob_frac.proofs.Fitting.{all_both, all_first, all_second}
use Rattle.mob_arith.proofs.termwise.course_on.Goals as goal

pub returns-in_err-from : goal.returns-in_err-from
returns-in_err-from g c =
    let first = g.O.Termwise.parts (g.A.Course.start_of c.args.left.now.course) (g.B.Course.start_of c.args.right.now.course) in
    let last = g.O.Termwise.parts (g.A.Course.end_of c.args.left.now.course) (g.B.Course.end_of c.args.right.now.course) in
    let fault = rw (c.start.ensures.limit, c.start-2.ensures.limit) at c.in_err-from.ensures.result in
    let p = err_from_is_err_and c.from_residual.result c.from_residual.ensures.1 in
    record { course = rw (p.1, p.2) (fault.0, λ k. fault.1 (all_first first last k)) }

pub returns-in_err-to : goal.returns-in_err-to
returns-in_err-to g c =
    let first = g.O.Termwise.parts (g.A.Course.start_of c.args.left.now.course) (g.B.Course.start_of c.args.right.now.course) in
    let last = g.O.Termwise.parts (g.A.Course.end_of c.args.left.now.course) (g.B.Course.end_of c.args.right.now.course) in
    let fault = rw (c.end.ensures.limit, c.end-2.ensures.limit) at c.in_err-to.ensures.result in
    let p = err_from_is_err_and c.from_residual-in_err-to.result c.from_residual-in_err-to.ensures.1 in
    record { course = rw (p.1, p.2) (fault.0, λ k. fault.1 (all_second first last k)) }

pub of-requires : goal.of-requires
of-requires g c =
    let from = rw (c.start.ensures.limit, c.start-2.ensures.limit) at c.in_ok-from.ensures.result in
    let to = rw (c.end.ensures.limit, c.end-2.ensures.limit) at c.in_ok-to.ensures.result in
    record { possible = rw (from.0, to.0) ((g.met.O.Termwise.law c.args.left.now.course c.args.right.now.course c.args.left.now.span.lower c.args.left.now.span.upper).made) }

pub returns : goal.returns
returns g c =
    let first = g.O.Termwise.parts (g.A.Course.start_of c.args.left.now.course) (g.B.Course.start_of c.args.right.now.course) in
    let last = g.O.Termwise.parts (g.A.Course.end_of c.args.left.now.course) (g.B.Course.end_of c.args.right.now.course) in
    let from = rw (c.start.ensures.limit, c.start-2.ensures.limit) at c.in_ok-from.ensures.result in
    let to = rw (c.end.ensures.limit, c.end-2.ensures.limit) at c.in_ok-to.ensures.result in
    record { course = (c.of.ensures.limits ∙ ap (λ z. g.D.Course.make z c.in_ok-to.to) from.0 ∙ ap (λ z. g.D.Course.make (g.O.Termwise.op (g.A.Course.start_of c.args.left.now.course) (g.B.Course.start_of c.args.right.now.course)) z) to.0, all_both first last from.1 to.1) }
