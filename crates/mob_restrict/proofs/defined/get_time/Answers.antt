use Rattle.std.{proofs.Common.{ap, ◌∙◌}, proofs.lemmas.Result.{IfOk-weaker}}
use Rattle.mob_span.specs.Sets.{in_some}
use Rattle.mob_restrict.proofs.SpansOf.{all_taken, spans_at}
use Rattle.mob_restrict.proofs.defined.get_time.Goals as goal

pub returns-clause-same : goal.returns-clause-same
returns-clause-same g c =
    let made = all_taken c.slices-slices.result.now c.args.a.now c.loop-slice.spans.items c.loop-slice.slice-index c.slices-slices.ensures.same c.loop-slice-test.false c.loop-slice.invariant in
    IfOk-weaker c.of.result _ _ (λ set h t. h t ∙ ap (λ z. in_some z t) made ∙ spans_at g.C.Course.value_of c.args.a.now t) c.of.ensures.same
