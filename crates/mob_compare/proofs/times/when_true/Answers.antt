use Rattle.std.{proofs.Common.{rules, arith, ◌≡◌, [], refl, ap, sym, ◌∙◌, true≢false}, proofs.lemmas.Grind.{common_steps}, proofs.lemmas.List.{nil_from_length}}
use Rattle.mob_span.specs.Sets.{in_some}
use Rattle.mob_slice.{specs.Operands.{steady_limit}, proofs.Orders.{ordered}}
use Rattle.mob_compare.proofs.TrueSpans.{all_taken, spans_at, never_true}
use Rattle.mob_compare.proofs.times.when_true.Goals as goal

pub returns-then-is_empty-clause-none : goal.returns-then-is_empty-clause-none
returns-then-is_empty-clause-none c =
    let v = c.args.a.now in
    let spans = c.loop-slice.spans.items in
    let made = all_taken c.slices-slices.result.now v spans c.loop-slice.slice-index c.slices-slices.ensures.same c.loop-slice-test.false c.loop-slice.invariant in
    let none : spans ≡ [] = nil_from_length spans (first_of (search rules, grind (arith, common_steps))) in
    (λ k t. sym (spans_at v spans (ordered steady_limit steady_limit _ v c.slices-slices.ensures.normal.chained) made t) ∙ ap (λ z. in_some z t) none, λ k. refl)

pub returns-clause-none : goal.returns-clause-none
returns-clause-none c =
    let v = c.args.a.now in
    let spans = c.loop-slice.spans.items in
    let made = all_taken c.slices-slices.result.now v spans c.loop-slice.slice-index c.slices-slices.ensures.same c.loop-slice-test.false c.loop-slice.invariant in
    (λ k. absurd (true≢false k), λ none. let e : spans ≡ [] = never_true v spans (ordered steady_limit steady_limit _ v c.slices-slices.ensures.normal.chained) made none in grind (arith, e, common_steps))

pub returns-clause-same : goal.returns-clause-same
returns-clause-same c t =
    let v = c.args.a.now in
    let spans = c.loop-slice.spans.items in
    let made = all_taken c.slices-slices.result.now v spans c.loop-slice.slice-index c.slices-slices.ensures.same c.loop-slice-test.false c.loop-slice.invariant in
    c.in_ok-of.ensures.same t ∙ spans_at v spans (ordered steady_limit steady_limit _ v c.slices-slices.ensures.normal.chained) made t
