-- When courses satisfy a test of their order on a piece.
use Rattle.std.{specs.Prelude.{◌≡◌, ◌↔◌, Bool, true, false, cond, ◌&&◌, ◌||◌, refl}, specs.declared.cmp.Ordering.{Ordering}, specs.declared.cmp.Ordering.TheVariants.{Less, Equal, Greater}}
use Rattle.std.{proofs.Common.{arith, ap, sym, ◌∙◌, true≢false}, proofs.lemmas.Bool.{false_from_ne_true, and_parts}}
use Rattle.mob_ratio.{specs.Ratio.{Ratio}, specs.Order.{same}, specs.Sign.{nil, sign_of}, proofs.Order.{same_exact}}
use Rattle.mob_span.{specs.Span.{SpanOf, has, has_instant}, proofs.SpanLemmas.{some_instant}}
use Rattle.mob_slice.{specs.Comparison.{gaps_at}, specs.declared.comparison.Gaps.{Gaps}, specs.declared.comparison.Gaps.TheVariants.{Constant, One, Two}}
use Rattle.mob_cells.{specs.declared.linear.Ends.{Ends}, specs.Roots.{function_at}}
use Rattle.mob_compare.{specs.Taken.{takes_sign, both_nil}, specs.Met.{order_of, line_between, one_meets, two_meet, gaps_meet}, proofs.Taking.{sign_of_is, is_sign_of}, proofs.OnSpans.{takes_exact}}
use Rattle.mob_compare.proofs.BothNil.{both_nil_exact}

-- an instant of the span at which the test is true
abbrev pub Meets : (Ordering → Bool) → SpanOf → (Ratio → Ordering) → Type 0
Meets test s order = (t : Ratio) × (has s t ≡ true) × (test (order t) ≡ true)

-- ---- one line
by_sign : (test : Ordering → Bool) (s : SpanOf) (f : Ends) (o : Ordering) → has_instant s ≡ true → (test o && takes_sign s f o) ≡ true → Meets test s (λ t. sign_of (function_at s f t))
by_sign test s f o i h = let m = (takes_exact s f o i).0 (grind (arith, h)) in (m.0, m.1, ap test m.2 ∙ grind (arith, h))

one_to : (test : Ordering → Bool) (s : SpanOf) (f : Ends) → has_instant s ≡ true → (a b : Bool) → (test Less && takes_sign s f Less) ≡ a → (test Equal && takes_sign s f Equal) ≡ b → (a || b || (test Greater && takes_sign s f Greater)) ≡ true → Meets test s (λ t. sign_of (function_at s f t))
one_to test s f i true b ea eb h = by_sign test s f Less i ea
one_to test s f i false true ea eb h = by_sign test s f Equal i eb
one_to test s f i false false ea eb h = by_sign test s f Greater i h

one_from : (test : Ordering → Bool) (s : SpanOf) (f : Ends) (t : Ratio) → has_instant s ≡ true → has s t ≡ true → (o : Ordering) → sign_of (function_at s f t) ≡ o → test o ≡ true → one_meets test s f ≡ true
one_from test s f t i h Less e k = rw (k, (takes_exact s f Less i).1 (t, h, e)) refl
one_from test s f t i h Equal e k = let w = (takes_exact s f Equal i).1 (t, h, e) in grind (arith, k, w)
one_from test s f t i h Greater e k = let w = (takes_exact s f Greater i).1 (t, h, e) in grind (arith, k, w)

-- ---- two lines
abbrev two_order : SpanOf → Ends → Ends → Ratio → Ordering
two_order s f e t = cond (same (function_at s f t) nil && same (function_at s e t) nil) Equal Less

less_not : Less ≡ Equal → ⊥
less_not e = cc

greater_not : Greater ≡ Equal → ⊥
greater_not e = cc

apart : (s : SpanOf) (f : Ends) (o : Ordering) (t : Ratio) → sign_of (function_at s f t) ≡ o → (o ≡ Equal → ⊥) → same (function_at s f t) nil ≡ false
apart s f o t e n = false_from_ne_true (same (function_at s f t) nil) (λ h. n (sym e ∙ sign_of_is (function_at s f t) Equal h))

at_less : (test : Ordering → Bool) (s : SpanOf) (f e : Ends) (t : Ratio) → has s t ≡ true → test Less ≡ true → (same (function_at s f t) nil && same (function_at s e t) nil) ≡ false → Meets test s (two_order s f e)
at_less test s f e t h k n = (t, h, ap (λ z. test (cond z Equal Less)) n ∙ k)

first_apart : (test : Ordering → Bool) (s : SpanOf) (f e : Ends) (o : Ordering) → has_instant s ≡ true → (o ≡ Equal → ⊥) → test Less ≡ true → takes_sign s f o ≡ true → Meets test s (two_order s f e)
first_apart test s f e o i n k h = let m = (takes_exact s f o i).0 h in at_less test s f e m.0 m.1 k (rw (apart s f o m.0 m.2 n) refl)

second_apart : (test : Ordering → Bool) (s : SpanOf) (f e : Ends) (o : Ordering) → has_instant s ≡ true → (o ≡ Equal → ⊥) → test Less ≡ true → takes_sign s e o ≡ true → Meets test s (two_order s f e)
second_apart test s f e o i n k h = let m = (takes_exact s e o i).0 h in let w = apart s e o m.0 m.2 n in at_less test s f e m.0 m.1 k (grind (arith, w))

apart_to : (test : Ordering → Bool) (s : SpanOf) (f e : Ends) → has_instant s ≡ true → test Less ≡ true → (a b c : Bool) → takes_sign s f Less ≡ a → takes_sign s f Greater ≡ b → takes_sign s e Less ≡ c → (a || b || c || takes_sign s e Greater) ≡ true → Meets test s (two_order s f e)
apart_to test s f e i k true b c ea eb ec h = first_apart test s f e Less i less_not k ea
apart_to test s f e i k false true c ea eb ec h = first_apart test s f e Greater i greater_not k eb
apart_to test s f e i k false false true ea eb ec h = second_apart test s f e Less i less_not k ec
apart_to test s f e i k false false false ea eb ec h = second_apart test s f e Greater i greater_not k h

two_to : (test : Ordering → Bool) (s : SpanOf) (f e : Ends) → has_instant s ≡ true → (a : Bool) → (test Equal && both_nil s f e) ≡ a → (a || (test Less && (takes_sign s f Less || takes_sign s f Greater || takes_sign s e Less || takes_sign s e Greater))) ≡ true → Meets test s (two_order s f e)
two_to test s f e i true ea h =
    let m = (both_nil_exact s f e i).0 (grind (arith, ea)) in
    (m.0, m.1, rw ((same_exact (function_at s f m.0) nil).1 m.2, (same_exact (function_at s e m.0) nil).1 m.3) (grind (arith, ea)))
two_to test s f e i false ea h = apart_to test s f e i (grind (arith, h)) (takes_sign s f Less) (takes_sign s f Greater) (takes_sign s e Less) refl refl refl (and_parts (test Less) (takes_sign s f Less || takes_sign s f Greater || takes_sign s e Less || takes_sign s e Greater) h).1

-- a function that is not 0 at an instant of the span takes one of the two other signs
other_sign : (s : SpanOf) (f : Ends) (t : Ratio) → has_instant s ≡ true → has s t ≡ true → same (function_at s f t) nil ≡ false → (o : Ordering) → sign_of (function_at s f t) ≡ o → (takes_sign s f Less || takes_sign s f Greater) ≡ true
other_sign s f t i h n Less e = rw ((takes_exact s f Less i).1 (t, h, e)) refl
other_sign s f t i h n Equal e = absurd (true≢false (sym (is_sign_of (function_at s f t) Equal e) ∙ n))
other_sign s f t i h n Greater e = let w = (takes_exact s f Greater i).1 (t, h, e) in grind (arith, w)

apart_from : (p q a b c d : Bool) → q ≡ true → (a || b || c || d) ≡ true → (p || (q && (a || b || c || d))) ≡ true
apart_from true q a b c d k h = refl
apart_from false q a b c d k h = rw (k, h) refl

two_from : (test : Ordering → Bool) (s : SpanOf) (f e : Ends) (t : Ratio) → has_instant s ≡ true → has s t ≡ true → (a b : Bool) → same (function_at s f t) nil ≡ a → same (function_at s e t) nil ≡ b → test (cond (a && b) Equal Less) ≡ true → two_meet test s f e ≡ true
two_from test s f e t i h true true ea eb k =
    let w = (both_nil_exact s f e i).1 (t, h, (same_exact (function_at s f t) nil).0 ea, (same_exact (function_at s e t) nil).0 eb) in
    rw (k, w) refl
two_from test s f e t i h true false ea eb k = apart_from (test Equal && both_nil s f e) (test Less) (takes_sign s f Less) (takes_sign s f Greater) (takes_sign s e Less) (takes_sign s e Greater) k (behind (takes_sign s f Less || takes_sign s f Greater) (takes_sign s e Less) (takes_sign s e Greater) (other_sign s e t i h eb (sign_of (function_at s e t)) refl))
  where
    behind : (a b c : Bool) → (b || c) ≡ true → (a || b || c) ≡ true
    behind a b c h = grind (arith, h)
two_from test s f e t i h false b ea eb k = apart_from (test Equal && both_nil s f e) (test Less) (takes_sign s f Less) (takes_sign s f Greater) (takes_sign s e Less) (takes_sign s e Greater) k (before_two (takes_sign s f Less || takes_sign s f Greater) (takes_sign s e Less) (takes_sign s e Greater) (other_sign s f t i h ea (sign_of (function_at s f t)) refl))
  where
    before_two : (a b c : Bool) → a ≡ true → (a || b || c) ≡ true
    before_two a b c h = grind (arith, h)

-- ---- courses by their gaps
abbrev pub GapsMeet : (Ordering → Bool) → SpanOf → Gaps → Gaps → Type 0
GapsMeet test s a b = Meets test s (λ t. order_of (gaps_at a b s.lower s.upper t))

level_gaps : (test : Ordering → Bool) (s : SpanOf) → has_instant s ≡ true → (test Equal ≡ true) ↔ Meets test s (λ t. Equal)
level_gaps test s i = (λ h. let m = some_instant s i in (m.0, m.1, h), λ m. m.2)

-- the test of the gaps at the two ends is true exactly if the order satisfies it at some instant of
-- the span
pub gaps_exact : (test : Ordering → Bool) (s : SpanOf) (a b : Gaps) → has_instant s ≡ true → (gaps_meet test s a b ≡ true) ↔ GapsMeet test s a b
gaps_exact test s (One f) (One g) i = (
  λ h. one_to test s (line_between f g) i (test Less && takes_sign s (line_between f g) Less) (test Equal && takes_sign s (line_between f g) Equal) refl refl h,
  λ m. one_from test s (line_between f g) m.0 i m.1 (sign_of (function_at s (line_between f g) m.0)) refl m.2,
)
gaps_exact test s (Two f e) (Two g h) i = (
  λ k. two_to test s (line_between f g) (line_between e h) i (test Equal && both_nil s (line_between f g) (line_between e h)) refl k,
  λ m. two_from test s (line_between f g) (line_between e h) m.0 i m.1 (same (function_at s (line_between f g) m.0) nil) (same (function_at s (line_between e h) m.0) nil) refl refl m.2,
)
gaps_exact test s (One f) Constant i = level_gaps test s i
gaps_exact test s (One f) (Two g h) i = level_gaps test s i
gaps_exact test s (Two f e) Constant i = level_gaps test s i
gaps_exact test s (Two f e) (One g) i = level_gaps test s i
gaps_exact test s Constant Constant i = level_gaps test s i
gaps_exact test s Constant (One g) i = level_gaps test s i
gaps_exact test s Constant (Two g h) i = level_gaps test s i
