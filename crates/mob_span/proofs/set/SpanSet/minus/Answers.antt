use Rattle.std.{proofs.Common.{rules, ap, sym, subst, ◌∙◌, IfOk}, proofs.lemmas.Result.{IfOk-weaker}}
use Rattle.mob_span.{specs.Remainders.{AreRemainders, IsInFirstAlone}, specs.Sets.{in_some}, proofs.Leaving.{set_clear}, proofs.Hulls.{minus_same, minus_nothing}}
use Rattle.mob_span.proofs.set.SpanSet.minus.Goals as goal

pub whole-requires : goal.whole-requires
whole-requires c = record { order = set_clear c.spans-spans.result.now (search rules) }

pub remainders-requires : goal.remainders-requires
remainders-requires c = record { order = set_clear c.spans-others.result.now (search rules) }

pub shared-requires-clause-left_order : goal.shared-requires-clause-left_order
shared-requires-clause-left_order c = set_clear c.spans-spans.result.now (search rules)

pub returns-in_default-clause-same : goal.returns-in_default-clause-same
returns-in_default-clause-same c = IfOk-weaker c.of.result _ _ (λ set h. minus_nothing c.args.self.now c.args.other.now set (sym c.spans-spans.ensures.same ∙ c.in_default.ensures.holds) (λ t. h t ∙ ap (λ z. in_some z t) c.new.ensures.items)) c.of.ensures.same

pub returns-in-Ok-clause-same : goal.returns-in-Ok-clause-same
returns-in-Ok-clause-same c =
    let v = c.spans-spans.result.now in
    let w = c.spans-others.result.now in
    let left : AreRemainders c.in-Some.span w c.as_slice.result.now = subst (λ z. AreRemainders c.in-Some.span w z) (sym c.as_slice.ensures.value) c.in-Ok.ensures.instants in
    subst (λ z. IfOk c.shared.result (λ set. IsInFirstAlone z c.args.other.now set)) c.spans-spans.ensures.same
    (subst (λ z. IfOk c.shared.result (λ set. IsInFirstAlone v z set)) c.spans-others.ensures.same
    (IfOk-weaker c.shared.result _ _ (λ set h. minus_same v w c.as_slice.result.now set c.in-Some.span c.in-Some.ensures.holds left h) c.shared.ensures.same))
