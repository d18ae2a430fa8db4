use Rattle.std.{specs.Fn.{FnReturnsAt}, proofs.Common.{Err, refl, ap, sym, ◌∙◌}, proofs.lemmas.Result.{IfOk-weaker, err_from_is_err_and}}
use Rattle.mob_lift.proofs.Errors.{err_as}
use Rattle.mob_tagg.proofs.United.{taken_as, first_from, passes_of}
use Rattle.mob_tagg.proofs.taking.either.Goals as goal

pub together-requires : goal.together-requires
together-requires g c κs = (
  (refl, tt),
  (
    λ p h. ((refl, tt), (c.requires.callable, h)),
    (
      λ p v i h k. let m = rw k.shows at k.says.met in (c.requires.sound p v i h m.1, m.0),
      λ p f h k. passes_of g.C.Course.parts_of (FnReturnsAt g.F.Fn c.args.both) p f (rw k.shows at k.says.met),
    ),
  ),
)

pub returns-in_err-slices-clause-passed : goal.returns-in_err-slices-clause-passed
returns-in_err-slices-clause-passed g c =
    let p = err_from_is_err_and c.from_residual.result c.from_residual.ensures.1 in
    λ f e. first_from g.C.Course.value_of g.C.Course.start_of g.C.Course.end_of g.C.Course.parts_of (λ v. v.items) (λ v. v.items) _ (FnReturnsAt g.F.Fn c.args.both) c.args.a.now c.args.b.now c.together.result c.together.ensures.taken f (c.together.ensures.passed f (c.in_err-slices.was ∙ err_as (ap Err (sym p.2) ∙ sym p.1 ∙ e))) (λ p r k. rw k.shows at k.says.met)

pub returns-clause-taken : goal.returns-clause-taken
returns-clause-taken g c =
    IfOk-weaker c.normal_of.result _ _
    (λ r e. taken_as g.C.Course.start_of g.C.Course.end_of g.C.Course.parts_of _ (FnReturnsAt g.F.Fn c.args.both) (λ p r k. rw k.shows at k.says.met) g.C.Course.value_of (λ v. v.items) c.args.a.now c.args.b.now c.in_ok-slices.slices.items r e c.in_ok-slices.ensures.taken)
    c.normal_of.ensures.same
