-- The answers of the reader of spans, by what it reads.
use Rattle.std.{specs.Prelude.{◌&&◌, is_some, IfSome, MatchOption}, proofs.Common.{◌≡◌, ℤ, Bool, true, false, cond, Option, Some, None, Ok, Err, refl, sym, ap, subst, ◌∙◌}}
use Rattle.mob_ratio.specs.Ratio.{Ratio}
use Rattle.mob_language.{specs.Language.{Text}, specs.Readers.{◌>>=◌, all_of, within_blanks_at}, proofs.Exact.{is_said, not_said}}
use Rattle.mob_numeral.{specs.declared.fault.ReadText.TheVariants.{NotText, TooLarge, Unsound}, specs.Verdict.{Lit}}
use Rattle.mob_span.specs.Span.{SpanOf, has_instant}
use Rattle.mob_geotext.{specs.declared.noted.NotedSpan.{NotedSpan}, specs.Spans.{noted_span_at, has_ends, bounds_of, spans, bounded, sound_span}, proofs.SpansExact.{spans_exact}}

-- ---- the ends

pub true_false : true ≡ false → ⊥
true_false e = absurd cc

-- both ends fit
pub record HasBounds (s : NotedSpan) : Type 0 where
  pub bounds : SpanOf
  pub is : bounds_of s ≡ Some bounds

pub has_bounds : (s : NotedSpan) → has_ends s ≡ true → HasBounds s
has_bounds s h = by_ends s.lower s.upper refl refl h
  where
    by_ends : (a b : Option Ratio) → s.lower ≡ a → s.upper ≡ b → (is_some a && is_some b) ≡ true → HasBounds s
    by_ends (Some a) (Some b) e f h = record { bounds = record { lower = a; upper = b; lower_inc = s.lower_inc; upper_inc = s.upper_inc }; is = rw (e, f) refl }
    by_ends (Some a) None e f h = absurd (true_false (sym h))
    by_ends None b e f h = absurd (true_false (sym h))

-- ---- a span with an instant

pub made_span : (o : Option SpanOf) (r : SpanOf) → IfSome o (λ s. s ≡ r) → MatchOption o (has_instant r ≡ false) (λ s. has_instant s ≡ true) → o ≡ bounded r
made_span None r is there = subst (λ (b : Bool). ◌≡◌ {A = Option SpanOf} None (cond b (Some r) None)) (sym there) refl
made_span (Some s) r is there =
    let h : has_instant r ≡ true = subst (λ (x : SpanOf). has_instant x ≡ true) is there in
    subst (λ (b : Bool). ◌≡◌ {A = Option SpanOf} (Some s) (cond b (Some r) None)) (sym h) (ap (λ (x : SpanOf). Some x) is)

-- the test for an instant, with a span that passes it and one that does not
pub kept : (r p : SpanOf) → ◌≡◌ {A = Option SpanOf} (Some p) (bounded r) → (has_instant r ≡ true) × (r ≡ p)
kept r p e = by_test (has_instant r) refl e
  where
    by_test : (b : Bool) → has_instant r ≡ b → ◌≡◌ {A = Option SpanOf} (Some p) (cond b (Some r) None) → (has_instant r ≡ true) × (r ≡ p)
    by_test true h e = (h, cc)
    by_test false h e = absurd cc

pub not_kept : (r : SpanOf) → ◌≡◌ {A = Option SpanOf} None (bounded r) → has_instant r ≡ false
not_kept r e = by_test (has_instant r) refl e
  where
    by_test : (b : Bool) → has_instant r ≡ b → ◌≡◌ {A = Option SpanOf} None (cond b (Some r) None) → has_instant r ≡ false
    by_test true h e = absurd cc
    by_test false h e = h

-- ---- the answers of the code

abbrev whole_span : ℤ → Text → Option NotedSpan
whole_span day bytes = all_of (within_blanks_at (noted_span_at day)) bytes

pub no_span : (day : ℤ) (text bytes : Text) → bytes ≡ text → ◌≡◌ {A = Option NotedSpan} None (whole_span day bytes) → Lit (spans day) text (Err NotText)
no_span day text bytes e h = λ s said. not_said (spans_exact day) refl text bytes s e h said

module _ (day : ℤ) (text bytes : Text) (s : NotedSpan) (e : bytes ≡ text) (h : ◌≡◌ {A = Option NotedSpan} (Some s) (whole_span day bytes)) where
  pub large_span : has_ends s ≡ false → Lit (spans day) text (Err TooLarge)
  large_span k = (s, is_said (spans_exact day) text bytes s e h, (λ x. x), k)

  fitting : has_ends s ≡ true → has_ends s ≡ false → ⊥
  fitting k n = true_false (sym k ∙ n)

  pub unsound_span : has_ends s ≡ true → ◌≡◌ {A = Option SpanOf} None (sound_span s) → Lit (spans day) text (Err Unsound)
  unsound_span k n =
      let b = has_bounds s k in
      let empty : has_instant b.bounds ≡ false = not_kept b.bounds (subst (λ (o : Option SpanOf). ◌≡◌ {A = Option SpanOf} None (o >>= bounded)) b.is n) in
      (s, is_said (spans_exact day) text bytes s e h, (λ x. x), fitting k, subst (λ (o : Option SpanOf). MatchOption o ⊥ (λ r. has_instant r ≡ false)) (sym b.is) empty)

  pub span_read : (r : SpanOf) → has_ends s ≡ true → ◌≡◌ {A = Option SpanOf} (Some r) (sound_span s) → Lit (spans day) text (Ok r)
  span_read r k n =
      let b = has_bounds s k in
      let its = kept b.bounds r (subst (λ (o : Option SpanOf). ◌≡◌ {A = Option SpanOf} (Some r) (o >>= bounded)) b.is n) in
      let is : bounds_of s ≡ Some r = subst (λ (x : SpanOf). bounds_of s ≡ Some x) its.1 b.is in
      let sound : MatchOption (bounds_of s) ⊥ (λ x. has_instant x ≡ false) → ⊥ = subst (λ (o : Option SpanOf). MatchOption o ⊥ (λ x. has_instant x ≡ false) → ⊥) (sym b.is) (λ (no : has_instant b.bounds ≡ false). true_false (sym its.0 ∙ no)) in
      (s, is_said (spans_exact day) text bytes s e h, (λ x. x), fitting k, sound, is)
