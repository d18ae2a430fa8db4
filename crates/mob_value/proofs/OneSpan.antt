-- The span set of one span.
use Rattle.std.proofs.Common.{◌≡◌, true, List, [], ◌∷◌, ap, ◌∙◌}
use Rattle.mob_ratio.specs.Ratio.{Ratio}
use Rattle.mob_span.{specs.Span.{SpanOf, has_instant}, specs.Sets.{in_some, IsSpanSet}, proofs.OneSet.{one_set}}

-- a span that has an instant is a span set
pub alone : (s : SpanOf) → has_instant s ≡ true → IsSpanSet (s ∷ [])
alone s h = (h, tt, tt)

-- the span set of the instants of one span is that span
pub set_of_one : (s : SpanOf) (spans set : List SpanOf) → has_instant s ≡ true → spans ≡ s ∷ [] → ((t : Ratio) → in_some set t ≡ in_some spans t) → IsSpanSet set → set ≡ s ∷ []
set_of_one s spans set h e f n = one_set set (s ∷ []) n (alone s h) (λ t. f t ∙ ap (λ z. in_some z t) e)
