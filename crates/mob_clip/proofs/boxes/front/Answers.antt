use Rattle.std.{specs.Prelude.{not}, proofs.Common.{refl}}
use Rattle.mob_span.specs.Span.{SpanOf}
use Rattle.mob_clip.{specs.Boxes.{front_span}, proofs.Passing.{some_made}}
use Rattle.mob_clip.proofs.boxes.front.Goals as goal

pub returns : goal.returns
returns c =
    let made : SpanOf = record { lower = c.lower.result.now; upper = c.lower-2.result.now; lower_inc = c.lower_inc.result; upper_inc = not c.lower_inc-2.result } in
    record { span = some_made made (front_span c.args.span.now c.args.part.now) c.new.result (rw (c.lower.ensures.value, c.lower-2.ensures.value, c.lower_inc.ensures.value, c.lower_inc-2.ensures.value) refl) c.new.ensures.ends c.new.ensures.test }
