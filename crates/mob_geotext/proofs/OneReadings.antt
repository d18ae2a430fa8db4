-- A text has at most one reading as a span, as a span set and as a polygon.
use Rattle.std.{specs.Prelude.{MatchOption}, proofs.Common.{◌≡◌, ℤ, List, Option, Some, None, refl, sym, ◌∙◌}}
use Rattle.mob_ratio.specs.Ratio.{Ratio}
use Rattle.mob_language.proofs.Exact.{one_value, some_is}
use Rattle.mob_numeral.{specs.Verdict.{HasOneReading}, proofs.Settled.{settled}}
use Rattle.mob_scalar.specs.Traverse.{traverse}
use Rattle.mob_span.{specs.Span.{SpanOf}, specs.Sets.{IsSpanSet, in_some}, proofs.OneSet.{one_set}}
use Rattle.mob_geotext.{specs.Spans.{bounds_of, spans, span_sets}, specs.Polygons.{polygons}, proofs.SpansExact.{spans_exact, span_sets_exact}, proofs.PolygonsExact.{polygons_exact}}

pub one_span : (day : ℤ) → HasOneReading (spans day)
one_span day text = settled (spans day) text (one_value (spans_exact day) refl text) (λ s v w a b. some_is v w (sym a ∙ b))

-- one list of spans denotes one set
abbrev StandsFor : Option (List SpanOf) → List SpanOf → Type 0
StandsFor o set = MatchOption o ⊥ (λ rs. IsSpanSet set × ((t : Ratio) → in_some set t ≡ in_some rs t))

same_set : (o : Option (List SpanOf)) (v w : List SpanOf) → StandsFor o v → StandsFor o w → v ≡ w
same_set None v w a b = absurd a
same_set (Some rs) v w a b = one_set v w a.0 b.0 (λ t. a.1 t ∙ sym (b.1 t))

pub one_span_set : (day : ℤ) → HasOneReading (span_sets day)
one_span_set day text = settled (span_sets day) text (one_value (span_sets_exact day) refl text) (λ ss v w a b. same_set (traverse bounds_of ss) v w a b)

pub one_polygon : HasOneReading polygons
one_polygon text = settled polygons text (one_value polygons_exact refl text) (λ s v w a b. some_is v w (sym a ∙ b))
