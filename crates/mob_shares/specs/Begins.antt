-- Spans with a common end.
use Rattle.std.specs.Prelude.{◌≡◌}
use Rattle.mob_span.specs.Span.{SpanOf}

-- two spans begin at the same instant, which both include or both exclude
pub record BeginTogether (a b : SpanOf) : Type 0 where
  pub lower : a.lower ≡ b.lower
  pub with : a.lower_inc ≡ b.lower_inc

-- two spans end at the same instant, which both include or both exclude
pub record EndTogether (a b : SpanOf) : Type 0 where
  pub upper : a.upper ≡ b.upper
  pub with : a.upper_inc ≡ b.upper_inc
