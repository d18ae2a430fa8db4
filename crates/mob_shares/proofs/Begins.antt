-- Two spans with a common end: their intersection, and the parts before and after.
use Rattle.std.{specs.Prelude.{◌≡◌, Bool, true, false, cond, not, ◌||◌, ◌&&◌}, proofs.Common.{arith, ap, sym, ◌∙◌}}
use Rattle.mob_list.proofs.Tests.{neither_true}
use Rattle.mob_ratio.{specs.Ratio.{Ratio}, specs.Order.{before, up_to}, proofs.Order.{before-back}}
use Rattle.mob_span.{specs.Span.{SpanOf, has, has_instant}, specs.Neighbours.{is_clear}, specs.Remainders.{precedes, follows, front_of, back_of}, proofs.SpanLemmas.{none_has}}
use Rattle.mob_span.proofs.Leaving.{front_has, back_has}
use Rattle.mob_shares.{specs.Begins.{BeginTogether, EndTogether}, proofs.Spans.{not_precedes, not_follows}}

pub begin_back : (a b : SpanOf) → BeginTogether a b → BeginTogether b a
begin_back a b h = record { lower = sym h.lower; with = sym h.with }

-- a span has no part before one that begins with it
pub none_front : (a b : SpanOf) → BeginTogether a b → has_instant (front_of a b) ≡ false
none_front a b h = none_has (front_of a b) (λ t. front_has a b t ∙ neither_true (has a t) (precedes t b) (λ k. sym (same t) ∙ not_precedes a t k))
  where
    same : (t : Ratio) → precedes t a ≡ precedes t b
    same t = ap (λ l. before t l || (not a.lower_inc && up_to t l)) h.lower ∙ ap (λ i. before t b.lower || (not i && up_to t b.lower)) h.with

-- and no part after one that ends with it
pub none_back : (a b : SpanOf) → EndTogether a b → has_instant (back_of a b) ≡ false
none_back a b h = none_has (back_of a b) (λ t. back_has a b t ∙ neither_true (has a t) (follows t b) (λ k. sym (same t) ∙ not_follows a t k))
  where
    same : (t : Ratio) → follows t a ≡ follows t b
    same t = ap (λ u. before u t || (not a.upper_inc && up_to u t)) h.upper ∙ ap (λ i. before b.upper t || (not i && up_to b.upper t)) h.with

not_clear_by : (l u : Ratio) (i j : Bool) → (before l u || (i && j && up_to l u)) ≡ true → (before u l || (up_to u l && not (j && i))) ≡ false
not_clear_by l u i j h = grind (arith, before-back l u)

-- a span is not clear of one that begins with it
pub not_clear : (a b : SpanOf) → has_instant a ≡ true → BeginTogether a b → is_clear a b ≡ false
not_clear a b i h =
    ap (λ l. before a.upper l || (up_to a.upper l && not (a.upper_inc && b.lower_inc))) (sym h.lower)
    ∙ ap (λ k. before a.upper a.lower || (up_to a.upper a.lower && not (a.upper_inc && k))) (sym h.with)
    ∙ not_clear_by a.lower a.upper a.lower_inc a.upper_inc i

-- the part after one that begins with it
pub back_behind : (a b : SpanOf) → has_instant a ≡ true → BeginTogether a b → record { lower = a.upper; upper = b.upper; lower_inc = not a.upper_inc; upper_inc = b.upper_inc } ≡ back_of b a
back_behind a b i h = ap (λ c. record { lower = cond c b.lower a.upper; upper = b.upper; lower_inc = cond c b.lower_inc (not a.upper_inc); upper_inc = b.upper_inc }) (sym (not_clear a b i h))

-- the same, for ends equal to those of the two
pub is_back : (a b : SpanOf) (l u : Ratio) (i j : Bool) → l ≡ a.upper → u ≡ b.upper → i ≡ a.upper_inc → j ≡ b.upper_inc → has_instant a ≡ true → BeginTogether a b → record { lower = l; upper = u; lower_inc = not i; upper_inc = j } ≡ back_of b a
is_back a b l u i j e f g k h t = rw (e, f, g, k) (back_behind a b h t)
