-- The signs that linear functions take on a span.
use Rattle.std.{specs.Prelude.{◌≡◌, ◌↔◌, Bool, true, false, cond, ◌&&◌, ◌||◌, refl}, specs.declared.cmp.Ordering.{Ordering}, proofs.Common.{arith, ap, sym, ◌∙◌, subst}}
use Rattle.mob_span.{specs.Span.{SpanOf, has, has_instant}, proofs.Insides.{inner_has}, proofs.SpanLemmas.{short_has}}
use Rattle.mob_ratio.{specs.Ratio.{Ratio}, specs.Order.{before}, specs.Sign.{sign_of}, proofs.Order.{before-self, before-neither}, proofs.LineAt.{line_at-lower, line_at-upper, line_at-short}}
use Rattle.mob_cells.{specs.declared.linear.Ends.{Ends}, specs.Roots.{function_at}}
use Rattle.mob_compare.{specs.Taken.{sign_is, takes_inside, takes_sign}, proofs.Taking.{inside_from, inside_to, sign_of_is, is_sign_of}}

-- ---- the instants of a span
pub lower_has : (s : SpanOf) → before s.lower s.upper ≡ true → s.lower_inc ≡ true → has s s.lower ≡ true
lower_has s h i = rw (before-self s.lower, h, i) refl

pub upper_has : (s : SpanOf) → before s.lower s.upper ≡ true → s.upper_inc ≡ true → has s s.upper ≡ true
upper_has s h i = rw (before-self s.upper, h, i) refl

-- an instant of a span is an end that the span includes, or lies strictly between the ends
pub data IsPlace (s : SpanOf) (t : Ratio) : Type 0 where
  at_lower : t ≡ s.lower → s.lower_inc ≡ true → IsPlace s t
  within : before s.lower t ≡ true → before t s.upper ≡ true → IsPlace s t
  at_upper : t ≡ s.upper → s.upper_inc ≡ true → IsPlace s t

place_by : (s : SpanOf) (t : Ratio) → has s t ≡ true → (a b : Bool) → before s.lower t ≡ a → before t s.upper ≡ b → IsPlace s t
place_by s t h true true ea eb = within ea eb
place_by s t h false b ea eb = at_lower (sym (before-neither s.lower t ea (grind (arith, h, ea)))) (grind (arith, h, ea))
place_by s t h true false ea eb = at_upper (before-neither t s.upper eb (grind (arith, h, eb))) (grind (arith, h, eb))

pub place_of : (s : SpanOf) (t : Ratio) → has s t ≡ true → IsPlace s t
place_of s t h = place_by s t h (before s.lower t) (before t s.upper) refl refl

-- ---- one function
abbrev pub IsTaken : SpanOf → Ends → Ordering → Type 0
IsTaken s f o = (t : Ratio) × (has s t ≡ true) × (sign_of (function_at s f t) ≡ o)

long_to : (s : SpanOf) (f : Ends) (o : Ordering) → before s.lower s.upper ≡ true → (a b : Bool) → takes_inside f.at_lower f.at_upper o ≡ a → (s.lower_inc && sign_is o f.at_lower) ≡ b → (a || b || (s.upper_inc && sign_is o f.at_upper)) ≡ true → IsTaken s f o
long_to s f o h true b ea eb k = let m = inside_to f.at_lower f.at_upper s.lower s.upper o h ea in (m.0, inner_has s m.0 m.1 m.2, m.3)
long_to s f o h false true ea eb k = (s.lower, lower_has s h (grind (arith, eb)), ap sign_of (line_at-lower f.at_lower f.at_upper s.lower s.upper) ∙ sign_of_is f.at_lower o (grind (arith, eb)))
long_to s f o h false false ea eb k = (s.upper, upper_has s h (grind (arith, k)), ap sign_of (line_at-upper f.at_lower f.at_upper s.lower s.upper h) ∙ sign_of_is f.at_upper o (grind (arith, k)))

long_from : (s : SpanOf) (f : Ends) (o : Ordering) (t : Ratio) → before s.lower s.upper ≡ true → sign_of (function_at s f t) ≡ o → IsPlace s t → (takes_inside f.at_lower f.at_upper o || (s.lower_inc && sign_is o f.at_lower) || (s.upper_inc && sign_is o f.at_upper)) ≡ true
long_from s f o t h e (at_lower p i) = let w = is_sign_of f.at_lower o (sym (ap sign_of (line_at-lower f.at_lower f.at_upper s.lower s.upper)) ∙ ap (λ z. sign_of (function_at s f z)) (sym p) ∙ e) in grind (arith, w, i)
long_from s f o t h e (within a b) = let w = inside_from f.at_lower f.at_upper s.lower s.upper t o a b e in grind (arith, w)
long_from s f o t h e (at_upper p i) = let w = is_sign_of f.at_upper o (sym (ap sign_of (line_at-upper f.at_lower f.at_upper s.lower s.upper h)) ∙ ap (λ z. sign_of (function_at s f z)) (sym p) ∙ e) in grind (arith, w, i)

takes_by : (s : SpanOf) (f : Ends) (o : Ordering) → has_instant s ≡ true → (b : Bool) → before s.lower s.upper ≡ b → (takes_sign s f o ≡ true) ↔ IsTaken s f o
takes_by s f o i true h = (
  λ k. long_to s f o h (takes_inside f.at_lower f.at_upper o) (s.lower_inc && sign_is o f.at_lower) refl refl (subst (λ z. cond z (takes_inside f.at_lower f.at_upper o || (s.lower_inc && sign_is o f.at_lower) || (s.upper_inc && sign_is o f.at_upper)) (sign_is o f.at_lower) ≡ true) h k),
  λ k. rw h (long_from s f o k.0 h k.2 (place_of s k.0 k.1)),
)
takes_by s f o i false h = (
  λ k. (s.lower, short_has s i h, ap sign_of (line_at-lower f.at_lower f.at_upper s.lower s.upper) ∙ sign_of_is f.at_lower o (subst (λ z. cond z (takes_inside f.at_lower f.at_upper o || (s.lower_inc && sign_is o f.at_lower) || (s.upper_inc && sign_is o f.at_upper)) (sign_is o f.at_lower) ≡ true) h k)),
  λ k. rw h (is_sign_of f.at_lower o (sym (ap sign_of (line_at-short f.at_lower f.at_upper s.lower s.upper k.0 h)) ∙ k.2)),
)

-- a function takes a sign on a span exactly if the test of its ends is true
pub takes_exact : (s : SpanOf) (f : Ends) (o : Ordering) → has_instant s ≡ true → (takes_sign s f o ≡ true) ↔ IsTaken s f o
takes_exact s f o i = takes_by s f o i (before s.lower s.upper) refl
