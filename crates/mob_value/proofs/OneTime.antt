-- The instants of a test are one span set.
use Rattle.std.proofs.Common.{◌≡◌, Bool, List, sym, ◌∙◌}
use Rattle.mob_ratio.specs.Ratio.{Ratio}
use Rattle.mob_span.{specs.Span.{SpanOf}, proofs.OneSet.{one_set}}
use Rattle.mob_value.specs.Sets.{AreInstantsOf}

-- the instants of a test are one span set
pub instants_once : (f : Ratio → Bool) (v w : List SpanOf) → AreInstantsOf f v → AreInstantsOf f w → v ≡ w
instants_once f v w h k = one_set v w h.0 k.0 (λ t. h.1 t ∙ sym (k.1 t))
