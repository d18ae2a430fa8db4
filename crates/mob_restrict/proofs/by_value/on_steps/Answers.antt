use Rattle.std.{proofs.Common.{rules, ◌∙◌, ap}, proofs.lemmas.Result.{err_from_is_err_and}}
use Rattle.mob_span.{specs.Flags.{same_bool}, proofs.Insides.{inside_self}}
use Rattle.mob_restrict.proofs.ToOne.{steady_first, steady_nothing, steady_all, steady_fails}
use Rattle.mob_restrict.proofs.by_value.on_steps.Goals as goal

pub cut-requires : goal.cut-requires
cut-requires g c = record { holds = (c.requires.sound, inside_self c.args.slice.now.span) }

pub returns-then-not-same_bool : goal.returns-then-not-same_bool
returns-then-not-same_bool g c =
    let e = c.same_bool.ensures.value ∙ ap (same_bool c.args.want) (rw c.start.ensures.limit at c.relates-keeps.ensures.value) in
    record { kept = (steady_nothing g.met.C.Course.laws g.met.C.Compared.laws c.args.slice.now c.requires.sound c.args.value.now c.requires.steady c.args.want c.same_bool.result _ e (search rules) c.new.ensures.items, steady_first g.met.C.Course.laws g.met.C.Compared.laws c.args.slice.now c.requires.sound c.args.value.now c.requires.steady) }

pub returns : goal.returns
returns g c =
    let e = c.same_bool.ensures.value ∙ ap (same_bool c.args.want) (rw c.start.ensures.limit at c.relates-keeps.ensures.value) in
    record { kept = steady_all g.met.C.Course.laws g.met.C.Compared.laws c.args.slice.now c.requires.sound c.args.value.now c.requires.steady (λ v. v.items) c.listed.result c.args.want c.same_bool.result c.in_ok-part.part e (search rules) c.in_ok-part.ensures.slice.0 c.listed.ensures.one }

pub returns-in_err-part : goal.returns-in_err-part
returns-in_err-part g c =
    let p = err_from_is_err_and c.from_residual.result c.from_residual.ensures.1 in
    record { kept = rw (p.1, p.2) (steady_fails g.met.C.Course.laws g.met.C.Compared.laws c.args.slice.now c.requires.sound c.args.value.now c.requires.steady c.in_err-part.field-0.0 c.in_err-part.ensures.slice) }
