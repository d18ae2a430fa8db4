use Rattle.std.proofs.Common.{sym, ◌∙◌}
use Rattle.mob_geotext.proofs.SpansRead.{no_span, large_span, unsound_span, span_read}
use Rattle.mob_geotext.proofs.single.read_span.Goals as goal

pub returns-in-None-clause-reading : goal.returns-in-None-clause-reading
returns-in-None-clause-reading c = no_span c.args.epoch.now c.args.text.now c.as_bytes.result.now c.as_bytes.ensures.value c.in-None.ensures.value

pub returns-then-not-has_ends-clause-reading : goal.returns-then-not-has_ends-clause-reading
returns-then-not-has_ends-clause-reading c = large_span c.args.epoch.now c.args.text.now c.as_bytes.result.now c.in-Some.noted c.as_bytes.ensures.value c.in-Some.ensures.value (sym c.has_ends.ensures.value ∙ c.if-not-has_ends.true)

pub returns-in-Some-span_of-clause-reading : goal.returns-in-Some-span_of-clause-reading
returns-in-Some-span_of-clause-reading c = span_read c.args.epoch.now c.args.text.now c.as_bytes.result.now c.in-Some.noted c.as_bytes.ensures.value c.in-Some.ensures.value c.in-Some-span_of.span (sym c.has_ends.ensures.value ∙ c.if-not-has_ends.false) c.in-Some-span_of.ensures.value

pub returns-in-None-span_of-clause-reading : goal.returns-in-None-span_of-clause-reading
returns-in-None-span_of-clause-reading c = unsound_span c.args.epoch.now c.args.text.now c.as_bytes.result.now c.in-Some.noted c.as_bytes.ensures.value c.in-Some.ensures.value (sym c.has_ends.ensures.value ∙ c.if-not-has_ends.false) c.in-None-span_of.ensures.value
