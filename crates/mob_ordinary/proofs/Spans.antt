-- Spans and span sets as sets of instants.
use Rattle.std.{specs.Prelude.{IsTrue, ◌↔◌}, proofs.Common.{◌≡◌, Bool, true, List, [], ◌∷◌, ap, sym, ◌∙◌}}
use Rattle.mob_span.{specs.Span.{SpanOf, has_instant}, specs.Sets.{in_some, IsSpanSet}, proofs.OneSet.{one_set}}
use Rattle.mob_value.proofs.OneSpan.{alone}
use Rattle.mob_ordinary.specs.Ordinary.{HaveSameInstants}

-- span sets have the same instants exactly if their lists are equal
pub sets_test : (a b v w : List SpanOf) (r : Bool) → v ≡ a → w ≡ b → IsSpanSet a → IsSpanSet b → IsTrue r ↔ (v ≡ w) → IsTrue r ↔ HaveSameInstants a b
sets_test a b v w r e f n m h = (
  λ k t. ap (λ z. in_some z t) (sym e ∙ h.0 k ∙ f),
  λ k. h.1 (e ∙ one_set a b n m k ∙ sym f),
)

first_is : (a b : SpanOf) → ◌≡◌ {A = List SpanOf} (a ∷ []) (b ∷ []) → a ≡ b
first_is a b e = cc

pub spans_test : (a b : SpanOf) (r : Bool) → has_instant a ≡ true → has_instant b ≡ true → IsTrue r ↔ (a ≡ b) → IsTrue r ↔ HaveSameInstants (a ∷ []) (b ∷ [])
spans_test a b r n m h = (
  λ k t. ap (λ z. in_some (z ∷ []) t) (h.0 k),
  λ k. h.1 (first_is a b (one_set (a ∷ []) (b ∷ []) (alone a n) (alone b m) k)),
)
