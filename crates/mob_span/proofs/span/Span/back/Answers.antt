use Rattle.mob_span.{specs.Span.{SpanOf}, proofs.Leaving.{back_answers}, proofs.span.Span.back.Goals.{then-is_clear, else-is_clear}}
use Rattle.mob_span.proofs.span.Span.back.Goals as goal

pub returns : goal.returns
returns c =
    let s : SpanOf = record { lower = c.self.inside.lower; upper = c.self.inside.upper; lower_inc = c.self.inside.lower_inc; upper_inc = c.self.inside.upper_inc } in
    let r : SpanOf = record { lower = c.other.inside.lower; upper = c.other.inside.upper; lower_inc = c.other.inside.lower_inc; upper_inc = c.other.inside.upper_inc } in
    let all = back_answers s r c.is_clear.result c.if-is_clear.lower c.new.result (rw (← c.self.view_is, ← c.other.view_is) at c.is_clear.ensures.value) (elim c.if-is_clear.branch [
      | then-is_clear w ↦ rw w.if-is_clear.true w.lower-is
      | else-is_clear w ↦ rw w.if-is_clear.false w.lower-is
    ]) (c.new.ensures.ends, c.new.ensures.test) in
    rw (← c.self.view_is, ← c.other.view_is) (record { instants = all.0; ends = all.1.0; test = all.1.1 })
