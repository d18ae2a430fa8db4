-- Span sets by their instants.
use Rattle.std.specs.Prelude.{◌≡◌, Bool, List}
use Rattle.mob_ratio.specs.Ratio.{Ratio}
use Rattle.mob_span.{specs.Sets.{in_some, IsSpanSet}, specs.Span.{SpanOf}}

-- the spans are the one span set with exactly the instants of the test f
abbrev pub AreInstantsOf : (Ratio → Bool) → List SpanOf → Type 0
AreInstantsOf f spans = IsSpanSet spans × ((t : Ratio) → in_some spans t ≡ f t)
