use Rattle.std.{proofs.Common.{◌≡◌, map, ap, ◌∙◌}, proofs.lemmas.Result.{IfOk-weaker}}
use Rattle.mob_span.{specs.Meets.{shared_pieces}, specs.Sets.{in_some}, specs.Walk.{meets_left}, proofs.Sharing.{pieces_in, pieces_all}}
use Rattle.mob_span.proofs.set.shared.Goals as goal

pub returns-clause-same : goal.returns-clause-same
returns-clause-same c =
    let all = map (λ p. p.span) (shared_pieces (λ s. s) (λ s. s) c.args.lefts.now c.args.rights.now) in
    let e : c.loop-met.spans.items ≡ all = pieces_all c.loop-met.spans.items (meets_left (λ s. s) (λ s. s) c.loop-met.met-iterator) all c.in-None.ensures.steps.0 c.loop-met.invariant.same in
    IfOk-weaker c.of.result _ _ (λ set h t. h t ∙ ap (λ z. in_some z t) e ∙ pieces_in c.args.lefts.now c.args.rights.now t) c.of.ensures.same
