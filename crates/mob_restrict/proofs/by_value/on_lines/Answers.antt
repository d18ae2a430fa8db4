use Rattle.std.proofs.lemmas.Result.{err_from_is_err_and}
use Rattle.mob_span.proofs.Insides.{inside_self}
use Rattle.mob_cells.proofs.OwnEnds.{own_fit}
use Rattle.mob_restrict.proofs.ToOne.{gaps_fail, level_gaps, lines_kept}
use Rattle.mob_restrict.proofs.by_value.on_lines.Goals as goal

pub returns-in_err-functions : goal.returns-in_err-functions
returns-in_err-functions g c =
    let p = err_from_is_err_and c.from_residual.result c.from_residual.ensures.1 in
    record { kept = rw (p.1, p.2) (gaps_fail g.met.C.Course.laws g.met.C.Compared.laws c.args.slice.now c.requires.sound c.args.value.now c.in_err-functions.field-0.0 (rw (c.start.ensures.limit, c.end.ensures.limit) at c.in_err-functions.ensures.functions)) }

pub kept-requires-clause-holds : goal.kept-requires-clause-holds
kept-requires-clause-holds g c = (c.requires.sound, inside_self c.args.slice.now.span)

pub kept-requires-clause-level : goal.kept-requires-clause-level
kept-requires-clause-level g c = level_gaps g.met.C.Course.laws g.met.C.Compared.laws c.args.slice.now c.requires.sound c.args.value.now c.in_ok-functions.functions.items (rw (c.start.ensures.limit, c.end.ensures.limit) at c.in_ok-functions.ensures.functions.0)

pub kept-requires-clause-ends : goal.kept-requires-clause-ends
kept-requires-clause-ends g c = own_fit g.met.C.Course.laws c.args.slice.now

pub returns : goal.returns
returns g c =
    let f = rw (c.start.ensures.limit, c.end.ensures.limit) at c.in_ok-functions.ensures.functions in
    record { kept = lines_kept g.met.C.Course.laws g.met.C.Compared.laws c.args.slice.now c.requires.sound c.args.value.now c.requires.moves c.args.want c.in_ok-functions.functions.items f.0 f.1 (λ v. v.items) c.kept.result c.kept.ensures.kept }
