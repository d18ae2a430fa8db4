use Rattle.std.proofs.lemmas.Result.{err_from_is_err_and}
use Rattle.mob_span.specs.Walk.{met_of}
use Rattle.mob_restrict.proofs.Cutting.{cut_fails, cut_given}
use Rattle.mob_restrict.proofs.by_time.on_met.Goals as goal

pub returns : goal.returns
returns g c = record { given = cut_given g.C.Course.parts_of (met_of c.args.met.now) g.C.Course.value_of g.C.Course.start_of g.C.Course.end_of (λ v. v.items) c.in_ok-slice.slice c.listed.result c.in_ok-slice.ensures.slice.0 c.in_ok-slice.ensures.slice.1 c.listed.ensures.one }

pub returns-in_err-slice : goal.returns-in_err-slice
returns-in_err-slice g c =
    let p = err_from_is_err_and c.from_residual.result c.from_residual.ensures.1 in
    record { given = rw (p.1, p.2) (cut_fails g.C.Course.parts_of (met_of c.args.met.now) g.C.Course.copy_allocates c.in_err-slice.field-0.0 c.in_err-slice.ensures.slice) }
