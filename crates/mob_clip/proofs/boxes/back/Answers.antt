use Rattle.std.{specs.Prelude.{not}, proofs.Common.{refl}}
use Rattle.mob_span.specs.Span.{SpanOf}
use Rattle.mob_clip.{specs.Boxes.{back_span}, proofs.Passing.{some_made}}
use Rattle.mob_clip.proofs.boxes.back.Goals as goal

pub returns : goal.returns
returns c =
    let made : SpanOf = record { lower = c.upper.result.now; upper = c.upper-2.result.now; lower_inc = not c.upper_inc.result; upper_inc = c.upper_inc-2.result } in
    record { span = some_made made (back_span c.args.span.now c.args.part.now) c.new.result (rw (c.upper.ensures.value, c.upper-2.ensures.value, c.upper_inc.ensures.value, c.upper_inc-2.ensures.value) refl) c.new.ensures.ends c.new.ensures.test }
