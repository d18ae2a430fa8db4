use Rattle.std.proofs.Common.{◌≡◌, refl}
use Rattle.mob_span.{specs.Span.{SpanOf}, specs.Neighbours.{joined}, proofs.Hulls.{whole_holds}}
use Rattle.mob_span.proofs.remainder.whole.Goals as goal

pub returns : goal.returns
returns g c =
    let span = g.X.Spanned.span_of in
    let x = c.in-Some.first.now in
    let y = c.in-Some-split_last.last.now in
    let made : SpanOf = record { lower = c.lower.result.now; upper = c.upper.result.now; lower_inc = c.lower_inc.result; upper_inc = c.upper_inc.result } in
    let same : made ≡ joined (span x) (span y) = rw (c.lower.ensures.value, c.upper.ensures.value, c.lower_inc.ensures.value, c.upper_inc.ensures.value, c.time-start.ensures.value, c.time-end.ensures.value) refl in
    record { holds = whole_holds span c.args.items.now x _ _ y made c.new.result c.in-Some.ensures.cases.0 c.in-Some-split_last.ensures.cases.0 c.requires.order same c.new.ensures.ends c.new.ensures.test }
