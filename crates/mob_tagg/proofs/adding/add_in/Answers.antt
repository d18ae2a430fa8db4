use Rattle.std.{proofs.Common.{[], ◌∷◌}, proofs.lemmas.Result.{IfOk-weaker, err_from_is_err_and}}
use Rattle.mob_frac.specs.Formula.{sum_parts}
use Rattle.mob_slice.{specs.Sides.{side_at, at_ends}, specs.declared.formula.Formula.TheVariants.{F2}}
use Rattle.mob_tagg.proofs.United.{given_value, given_judged, still_judged}
use Rattle.mob_tagg.proofs.adding.add_in.Goals as goal

pub returns-in_err-slices-clause-first : goal.returns-in_err-slices-clause-first
returns-in_err-slices-clause-first g c =
    let p = err_from_is_err_and c.from_residual.result c.from_residual.ensures.1 in
    rw (p.1, p.2) (rw c.in_err-slices.was at (given_judged g.C.Course.value_of g.C.Course.start_of g.C.Course.end_of g.C.Course.parts_of (λ s. s ∷ []) _ g.C.Summed.added (λ q. record { formula = F2; parts = at_ends (λ t. sum_parts (g.C.Summed.number (side_at g.C.Course.value_of q.left t)) (g.C.Summed.number (side_at g.C.Course.value_of q.right t))) q.span } ∷ [])
    (λ p r k. rw k.shows at k.says.met) (λ v. v.items) c.args.total.now c.args.v.now c.merged.result c.merged.ensures.taken c.merged.ensures.passed))

pub returns-clause-value : goal.returns-clause-value
returns-clause-value g c =
    IfOk-weaker c.normal_of.result _ _
    (λ r e. given_value g.C.Course.value_of g.C.Course.start_of g.C.Course.end_of g.C.Course.parts_of (λ s. s ∷ []) _ c.args.total.now c.args.v.now c.in_ok-slices.slices.items r c.in_ok-slices.ensures.taken e g.C.Summed.added (λ q. record { formula = F2; parts = at_ends (λ t. sum_parts (g.C.Summed.number (side_at g.C.Course.value_of q.left t)) (g.C.Summed.number (side_at g.C.Course.value_of q.right t))) q.span } ∷ [])
    (λ p r k. rw k.shows at k.says.met))
    c.normal_of.ensures.same

pub returns-clause-first : goal.returns-clause-first
returns-clause-first g c =
    still_judged _ c.normal_of.result
    (rw c.in_ok-slices.was at (given_judged g.C.Course.value_of g.C.Course.start_of g.C.Course.end_of g.C.Course.parts_of (λ s. s ∷ []) _ g.C.Summed.added (λ q. record { formula = F2; parts = at_ends (λ t. sum_parts (g.C.Summed.number (side_at g.C.Course.value_of q.left t)) (g.C.Summed.number (side_at g.C.Course.value_of q.right t))) q.span } ∷ [])
    (λ p r k. rw k.shows at k.says.met) (λ v. v.items) c.args.total.now c.args.v.now c.merged.result c.merged.ensures.taken c.merged.ensures.passed))
    c.normal_of.ensures.memory
