-- When two linear functions are 0 at the same instant.
use Rattle.std.{specs.Prelude.{◌≡◌, ◌↔◌, Bool, true, false, cond, ◌&&◌, ◌||◌, refl}, specs.declared.cmp.Ordering.TheVariants.{Equal}, proofs.Common.{arith, ap, sym, ◌∙◌, subst, true≢false}}
use Rattle.mob_span.{specs.Span.{SpanOf, has, has_instant}, proofs.Insides.{inner_has}, proofs.SpanLemmas.{short_has}}
use Rattle.mob_ratio.{specs.Ratio.{Ratio, ◌/ℚ◌}, specs.Order.{before, same}, specs.Line.{line_at}, specs.Sign.{nil, opposite, sign_of}, proofs.Order.{same_exact}}
use Rattle.mob_ratio.{proofs.Divide.{quotients_same}, proofs.LineAt.{line_at-lower, line_at-upper, line_at-short, line_at-level}}
use Rattle.mob_ratio.{proofs.Signs.{sign_nil}}
use Rattle.mob_cells.{specs.declared.linear.Ends.{Ends}, specs.Roots.{function_at}, proofs.SharedRoots.{equal_nil, no_opposite, one_ratio, same_root}}
use Rattle.mob_compare.{specs.Taken.{takes_inside, is_nil_line, nil_inside, both_nil}, proofs.Taking.{inside_from, inside_to}}
use Rattle.mob_compare.proofs.OnSpans.{IsPlace, at_lower, within, at_upper, place_of, lower_has, upper_has}

not_nil : (q : Ratio) → same q nil ≡ false → q ≡ nil → ⊥
not_nil q n e = true≢false (sym ((same_exact q nil).1 e) ∙ n)

-- ---- strictly between the ends
abbrev pub IsNilInside : Ends → Ends → Ratio → Ratio → Type 0
IsNilInside f e l u = (t : Ratio) × (before l t ≡ true) × (before t u ≡ true) × (line_at f.at_lower f.at_upper l u t ≡ nil) × (line_at e.at_lower e.at_upper l u t ≡ nil)

nil_everywhere : (f : Ends) (l u t : Ratio) → is_nil_line f ≡ true → line_at f.at_lower f.at_upper l u t ≡ nil
nil_everywhere f l u t h =
    let a : f.at_lower ≡ nil = (same_exact f.at_lower nil).0 (grind (arith, h)) in
    let b : f.at_upper ≡ nil = (same_exact f.at_upper nil).0 (grind (arith, h)) in
    ap (λ z. line_at z f.at_upper l u t) a ∙ ap (λ z. line_at nil z l u t) b ∙ line_at-level nil l u t

crosses : (f : Ends) → takes_inside f.at_lower f.at_upper Equal ≡ true → is_nil_line f ≡ false → opposite f.at_lower f.at_upper ≡ true
crosses f h n = grind (arith, h, n)

-- a line that is 0 strictly between its ends, but not everywhere, does not end with 0
pub ends_apart : (f : Ends) → takes_inside f.at_lower f.at_upper Equal ≡ true → is_nil_line f ≡ false → f.at_upper ≡ nil → ⊥
ends_apart f h n = not_nil f.at_upper (no_opposite f.at_lower f.at_upper (crosses f h n)).1

inside_nil_to : (f e : Ends) (l u : Ratio) → before l u ≡ true → takes_inside f.at_lower f.at_upper Equal ≡ true → takes_inside e.at_lower e.at_upper Equal ≡ true → (a b : Bool) → is_nil_line f ≡ a → is_nil_line e ≡ b → (a || b || same (f.at_lower /ℚ f.at_upper) (e.at_lower /ℚ e.at_upper)) ≡ true → IsNilInside f e l u
inside_nil_to f e l u h p q true b ea eb k = let m = inside_to e.at_lower e.at_upper l u Equal h q in (m.0, m.1, m.2, nil_everywhere f l u m.0 ea, equal_nil _ m.3)
inside_nil_to f e l u h p q false true ea eb k = let m = inside_to f.at_lower f.at_upper l u Equal h p in (m.0, m.1, m.2, equal_nil _ m.3, nil_everywhere e l u m.0 eb)
inside_nil_to f e l u h p q false false ea eb k =
    let m = inside_to f.at_lower f.at_upper l u Equal h p in
    let nf = ends_apart f p ea in
    let ne = ends_apart e q eb in
    let c = (quotients_same f.at_lower f.at_upper e.at_lower e.at_upper nf ne).0 ((same_exact (f.at_lower /ℚ f.at_upper) (e.at_lower /ℚ e.at_upper)).0 k) in
    (m.0, m.1, m.2, equal_nil _ m.3, same_root f.at_lower f.at_upper e.at_lower e.at_upper l u m.0 nf c (equal_nil _ m.3))

inside_nil_from : (f e : Ends) (l u t : Ratio) → before l t ≡ true → before t u ≡ true → line_at f.at_lower f.at_upper l u t ≡ nil → line_at e.at_lower e.at_upper l u t ≡ nil → takes_inside f.at_lower f.at_upper Equal ≡ true → takes_inside e.at_lower e.at_upper Equal ≡ true → (a b : Bool) → is_nil_line f ≡ a → is_nil_line e ≡ b → (a || b || same (f.at_lower /ℚ f.at_upper) (e.at_lower /ℚ e.at_upper)) ≡ true
inside_nil_from f e l u t h k y z p q true b ea eb = refl
inside_nil_from f e l u t h k y z p q false true ea eb = refl
inside_nil_from f e l u t h k y z p q false false ea eb =
    let nf = ends_apart f p ea in
    let ne = ends_apart e q eb in
    (same_exact (f.at_lower /ℚ f.at_upper) (e.at_lower /ℚ e.at_upper)).1 ((quotients_same f.at_lower f.at_upper e.at_lower e.at_upper nf ne).1 (one_ratio f.at_lower f.at_upper e.at_lower e.at_upper l u t h k y z))

nil_inside_is : (f e : Ends) (l u : Ratio) → before l u ≡ true → (nil_inside f e ≡ true) ↔ IsNilInside f e l u
nil_inside_is f e l u h = (
  λ k. inside_nil_to f e l u h (grind (arith, k)) (grind (arith, k)) (is_nil_line f) (is_nil_line e) refl refl (third (takes_inside f.at_lower f.at_upper Equal) (takes_inside e.at_lower e.at_upper Equal) (is_nil_line f || is_nil_line e || same (f.at_lower /ℚ f.at_upper) (e.at_lower /ℚ e.at_upper)) k),
  λ m.
      let p = inside_from f.at_lower f.at_upper l u m.0 Equal m.1 m.2 (ap sign_of m.3 ∙ sign_nil) in
      let q = inside_from e.at_lower e.at_upper l u m.0 Equal m.1 m.2 (ap sign_of m.4 ∙ sign_nil) in
      rw (p, q, inside_nil_from f e l u m.0 m.1 m.2 m.3 m.4 p q (is_nil_line f) (is_nil_line e) refl refl) refl,
)
  where
    third : (a b c : Bool) → (a && b && c) ≡ true → c ≡ true
    third a b c h = grind (arith, h)

-- ---- on a span
abbrev pub IsBothNil : SpanOf → Ends → Ends → Type 0
IsBothNil s f e = (t : Ratio) × (has s t ≡ true) × (function_at s f t ≡ nil) × (function_at s e t ≡ nil)

at_low : (s : SpanOf) (f : Ends) → same f.at_lower nil ≡ true → function_at s f s.lower ≡ nil
at_low s f h = line_at-lower f.at_lower f.at_upper s.lower s.upper ∙ (same_exact f.at_lower nil).0 h

at_high : (s : SpanOf) (f : Ends) → before s.lower s.upper ≡ true → same f.at_upper nil ≡ true → function_at s f s.upper ≡ nil
at_high s f k h = line_at-upper f.at_lower f.at_upper s.lower s.upper k ∙ (same_exact f.at_upper nil).0 h

low_nil : (s : SpanOf) (f : Ends) (t : Ratio) → t ≡ s.lower → function_at s f t ≡ nil → same f.at_lower nil ≡ true
low_nil s f t e z = (same_exact f.at_lower nil).1 (sym (line_at-lower f.at_lower f.at_upper s.lower s.upper) ∙ ap (λ q. function_at s f q) (sym e) ∙ z)

high_nil : (s : SpanOf) (f : Ends) (t : Ratio) → before s.lower s.upper ≡ true → t ≡ s.upper → function_at s f t ≡ nil → same f.at_upper nil ≡ true
high_nil s f t k e z = (same_exact f.at_upper nil).1 (sym (line_at-upper f.at_lower f.at_upper s.lower s.upper k) ∙ ap (λ q. function_at s f q) (sym e) ∙ z)

long_to : (s : SpanOf) (f e : Ends) → before s.lower s.upper ≡ true → (a b : Bool) → nil_inside f e ≡ a → (s.lower_inc && same f.at_lower nil && same e.at_lower nil) ≡ b → (a || b || (s.upper_inc && same f.at_upper nil && same e.at_upper nil)) ≡ true → IsBothNil s f e
long_to s f e h true b ea eb k = let m = (nil_inside_is f e s.lower s.upper h).0 ea in (m.0, inner_has s m.0 m.1 m.2, m.3, m.4)
long_to s f e h false true ea eb k = (s.lower, lower_has s h (grind (arith, eb)), at_low s f (grind (arith, eb)), at_low s e (grind (arith, eb)))
long_to s f e h false false ea eb k = (s.upper, upper_has s h (grind (arith, k)), at_high s f h (grind (arith, k)), at_high s e h (grind (arith, k)))

long_from : (s : SpanOf) (f e : Ends) (t : Ratio) → before s.lower s.upper ≡ true → function_at s f t ≡ nil → function_at s e t ≡ nil → IsPlace s t → (nil_inside f e || (s.lower_inc && same f.at_lower nil && same e.at_lower nil) || (s.upper_inc && same f.at_upper nil && same e.at_upper nil)) ≡ true
long_from s f e t h y z (at_lower p i) = grind (arith, i, low_nil s f t p y, low_nil s e t p z)
long_from s f e t h y z (within a b) = let w = (nil_inside_is f e s.lower s.upper h).1 (t, a, b, y, z) in rw w refl
long_from s f e t h y z (at_upper p i) = grind (arith, i, high_nil s f t h p y, high_nil s e t h p z)

both_by : (s : SpanOf) (f e : Ends) → has_instant s ≡ true → (b : Bool) → before s.lower s.upper ≡ b → (both_nil s f e ≡ true) ↔ IsBothNil s f e
both_by s f e i true h = (
  λ k. long_to s f e h (nil_inside f e) (s.lower_inc && same f.at_lower nil && same e.at_lower nil) refl refl (subst (λ z. cond z (nil_inside f e || (s.lower_inc && same f.at_lower nil && same e.at_lower nil) || (s.upper_inc && same f.at_upper nil && same e.at_upper nil)) (same f.at_lower nil && same e.at_lower nil) ≡ true) h k),
  λ m. rw h (long_from s f e m.0 h m.2 m.3 (place_of s m.0 m.1)),
)
both_by s f e i false h = (
  λ k.
      let w : (same f.at_lower nil && same e.at_lower nil) ≡ true = subst (λ z. cond z (nil_inside f e || (s.lower_inc && same f.at_lower nil && same e.at_lower nil) || (s.upper_inc && same f.at_upper nil && same e.at_upper nil)) (same f.at_lower nil && same e.at_lower nil) ≡ true) h k in
      (s.lower, short_has s i h, at_low s f (grind (arith, w)), at_low s e (grind (arith, w))),
  λ m.
      let a : same f.at_lower nil ≡ true = (same_exact f.at_lower nil).1 (sym (line_at-short f.at_lower f.at_upper s.lower s.upper m.0 h) ∙ m.2) in
      let b : same e.at_lower nil ≡ true = (same_exact e.at_lower nil).1 (sym (line_at-short e.at_lower e.at_upper s.lower s.upper m.0 h) ∙ m.3) in
      rw (h, a, b) refl,
)

-- two functions are 0 at one instant of a span exactly if the test of their ends is true
pub both_nil_exact : (s : SpanOf) (f e : Ends) → has_instant s ≡ true → (both_nil s f e ≡ true) ↔ IsBothNil s f e
both_nil_exact s f e i = both_by s f e i (before s.lower s.upper) refl
