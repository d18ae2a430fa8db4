use Rattle.std.{specs.List.{AllByRecursion}, proofs.Common.{subst, ap, sym, ◌∙◌, ◌≡◌, true}, proofs.lemmas.Result.{IfOk-weaker}}
use Rattle.mob_span.{specs.Neighbours.{is_inside}, specs.Remainders.{AreRemainders, remainders_of}, proofs.Leaving.{set_clear}}
use Rattle.mob_slice.proofs.Orders.{ordered, ordered-clear}
use Rattle.mob_restrict.proofs.Outside.{outside_values, judged_by_set}
use Rattle.mob_restrict.proofs.by_time.outside.Goals as goal

pub whole-requires : goal.whole-requires
whole-requires g c = record { order = rw c.slices-slices.ensures.same (ordered-clear g.C.Course.start_of g.C.Course.end_of c.args.a.now (ordered g.C.Course.start_of g.C.Course.end_of _ c.args.a.now c.slices-slices.ensures.normal.chained)) }

pub remainders-requires : goal.remainders-requires
remainders-requires g c = record { order = rw c.spans-spans.ensures.same (set_clear c.args.when.now c.spans-spans.ensures.normal) }

pub returns-in_default-clause-slices : goal.returns-in_default-clause-slices
returns-in_default-clause-slices g c = absurd (c.slices-slices.ensures.normal.some (sym c.slices-slices.ensures.same ∙ c.in_default.ensures.holds))

pub returns-in_default-clause-first : goal.returns-in_default-clause-first
returns-in_default-clause-first g c = absurd (c.slices-slices.ensures.normal.some (sym c.slices-slices.ensures.same ∙ c.in_default.ensures.holds))

pub returns-clause-slices : goal.returns-clause-slices
returns-clause-slices g c =
    let time = c.in-Some.time in
    let remainders = c.as_slice.result.now in
    let holds : AllByRecursion (λ s. is_inside time s.span ≡ true) c.args.a.now = subst (AllByRecursion (λ s. is_inside time s.span ≡ true)) c.slices-slices.ensures.same c.in-Some.ensures.holds in
    let left : AreRemainders time c.args.when.now remainders = subst (λ z. AreRemainders time c.args.when.now z) (sym c.as_slice.ensures.value) (subst (λ z. AreRemainders time z c.in_ok-left.left.items) c.spans-spans.ensures.same c.in_ok-left.ensures.instants) in
    IfOk-weaker c.within.result _ _ (λ all r. outside_values g.C.Course.value_of g.C.Course.start_of g.C.Course.end_of c.args.a.now all.items time c.args.when.now remainders holds left r) c.within.ensures.slices

pub returns-clause-first : goal.returns-clause-first
returns-clause-first g c =
    let time = c.in-Some.time in
    let remainders = c.as_slice.result.now in
    let holds : AllByRecursion (λ s. is_inside time s.span ≡ true) c.args.a.now = subst (AllByRecursion (λ s. is_inside time s.span ≡ true)) c.slices-slices.ensures.same c.in-Some.ensures.holds in
    let made : remainders ≡ remainders_of time c.args.when.now = c.as_slice.ensures.value ∙ c.in_ok-left.ensures.ends ∙ ap (remainders_of time) c.spans-spans.ensures.same in
    judged_by_set g.met.C.Course.laws c.args.a.now c.args.when.now remainders time c.within.result holds c.lower.ensures.some c.spans-spans.ensures.normal made c.within.ensures.first
