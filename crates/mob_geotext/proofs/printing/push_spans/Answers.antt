use Rattle.std.proofs.Common.{string_bytes, arith}
use Rattle.mob_scalar.{proofs.Parted.{parted}, proofs.CommasWritten.{commas_done}}
use Rattle.mob_geotext.specs.SpanText.{span_text}
use Rattle.mob_geotext.proofs.printing.push_spans.Goals as goal

pub returns : goal.returns
returns c = record {
  written = commas_done (span_text c.args.epoch.now) c.args.spans.now c.first-item.result _ c.loop-next.next-index (string_bytes c.args.into.now) (string_bytes c.push_span.new.into) (string_bytes c.loop-next.into)
      (parted c.args.spans.now c.first-item.result c.first-item.is (omega arith)) (omega arith) c.in_ok-push_span.ensures.written c.loop-next.invariant;
}
