-- The squared length of a difference that changes linearly is a convex quadratic function of the
-- elapsed fraction of the time.
use Rattle.std.{specs.Prelude.{◌≡◌, ◌↔◌, ◌&&◌, Bool, true, false, [], ◌∷◌, pos, refl}, proofs.Common.{ap, sym, ◌∙◌, subst}}
use Rattle.mob_ratio.{specs.Ratio.{Ratio, ◌+ℚ◌, ◌-ℚ◌, ◌*ℚ◌, ◌/ℚ◌, ◌<ℚ◌, ◌≤ℚ◌}, specs.Order.{before, up_to}, specs.Sign.{nil}, specs.Line.{line_at}}
use Rattle.mob_ratio.{specs.Quadratic.{one, quadratic, at_one, in_unit, dips, scaled_least, reaches, infimum, square_is_within}, proofs.LineAt.{line_at-known}}
use Rattle.mob_ratio.{proofs.Order.{before-lt, lt-before, same_truth}, proofs.Field.{lt_by, lt_mul_pos, lt_of_mul_pos, mul_assoc}, proofs.Divide.{div-mul, sub_ne-zero}}
use Rattle.mob_ratio.{proofs.Ring.{at, lit, ◌⊕◌, ◌⊗◌, ◌⊖◌}, proofs.Rings.{ring_ℚ}, proofs.Convex.{square_le, add_le, sub_lt}, proofs.QuadraticTests.{decided, bounded, inner}}
use Rattle.mob_ratio.proofs.Absolute.{inner_test}
use Rattle.mob_span.specs.Span.{SpanOf, has}
use Rattle.mob_legs.{specs.Legs.{length_squared, squares_of, foot_of, leg_reaches, leg_approach}, specs.declared.legs.Leg.{Leg}}

-- the vector of the segment, its squared length, and its dot product with the start
abbrev going : Ratio → Ratio → Ratio → Ratio
going x0 x1 s = x0 +ℚ s *ℚ (x1 -ℚ x0)

abbrev way : Leg → Ratio
way g = length_squared (g.x1 -ℚ g.x0) (g.y1 -ℚ g.y0)

abbrev along : Leg → Ratio
along g = g.x0 *ℚ (g.x1 -ℚ g.x0) +ℚ g.y0 *ℚ (g.y1 -ℚ g.y0)

abbrev start : Leg → Ratio
start g = length_squared g.x0 g.y0

as_quadratic : (x0 y0 x1 y1 s : Ratio) → length_squared (going x0 x1 s) (going y0 y1 s) ≡ quadratic (length_squared (x1 -ℚ x0) (y1 -ℚ y0)) (x0 *ℚ (x1 -ℚ x0) +ℚ y0 *ℚ (y1 -ℚ y0)) (length_squared x0 y0) s
as_quadratic x0 y0 x1 y1 s =
    let X = at 0 in let Y = at 1 in let E = at 2 ⊖ at 0 in let F = at 3 ⊖ at 1 in let S = at 4 in
    let A = E ⊗ E ⊕ F ⊗ F in let B = X ⊗ E ⊕ Y ⊗ F in let C = X ⊗ X ⊕ Y ⊗ Y in
    ring_ℚ (x0 ∷ y0 ∷ x1 ∷ y1 ∷ s ∷ []) ((X ⊕ S ⊗ E) ⊗ (X ⊕ S ⊗ E) ⊕ (Y ⊕ S ⊗ F) ⊗ (Y ⊕ S ⊗ F)) ((C ⊕ S ⊗ (B ⊕ B)) ⊕ (S ⊗ S) ⊗ A) refl

as_last : (g : Leg) → at_one (way g) (along g) (start g) ≡ (squares_of g).last
as_last g =
    let X = at 0 in let Y = at 1 in let E = at 2 ⊖ at 0 in let F = at 3 ⊖ at 1 in
    let A = E ⊗ E ⊕ F ⊗ F in let B = X ⊗ E ⊕ Y ⊗ F in let C = X ⊗ X ⊕ Y ⊗ Y in
    ring_ℚ (g.x0 ∷ g.y0 ∷ g.x1 ∷ g.y1 ∷ []) ((C ⊕ (B ⊕ B)) ⊕ A) (at 2 ⊗ at 2 ⊕ at 3 ⊗ at 3) refl

-- (Lagrange's identity)
as_across : (g : Leg) → scaled_least (way g) (along g) (start g) ≡ (foot_of g).across *ℚ (foot_of g).across
as_across g =
    let X = at 0 in let Y = at 1 in let E = at 2 ⊖ at 0 in let F = at 3 ⊖ at 1 in
    let A = E ⊗ E ⊕ F ⊗ F in let B = X ⊗ E ⊕ Y ⊗ F in let C = X ⊗ X ⊕ Y ⊗ Y in let K = X ⊗ F ⊖ Y ⊗ E in
    ring_ℚ (g.x0 ∷ g.y0 ∷ g.x1 ∷ g.y1 ∷ []) (A ⊗ C ⊖ B ⊗ B) (K ⊗ K) refl

pub squared_le : (x y : Ratio) → nil ≤ℚ length_squared x y
squared_le x y = add_le _ _ (square_le x) (square_le y)

-- ---- s is the elapsed fraction of the time from l to u at t
record IsGone (l u t s : Ratio) : Type 0 where
  pub is : s *ℚ (u -ℚ l) ≡ t -ℚ l

less_by : (w l s1 s2 t1 t2 : Ratio) → nil <ℚ w → s1 *ℚ w ≡ t1 -ℚ l → s2 *ℚ w ≡ t2 -ℚ l → before s1 s2 ≡ before t1 t2
less_by w l s1 s2 t1 t2 hw e f =
    let T = at 0 in let V = at 1 in let L = at 2 in
    same_truth _ _
    (λ h. lt-before t1 t2 (lt_by (s1 *ℚ w) (s2 *ℚ w) t1 t2 (lt_mul_pos s1 s2 w hw (before-lt s1 s2 h)) (rw (e, f) (ring_ℚ (t1 ∷ t2 ∷ l ∷ []) (T ⊕ (V ⊖ L)) (V ⊕ (T ⊖ L)) refl))))
    (λ h. lt-before s1 s2 (lt_of_mul_pos s1 s2 w hw (lt_by t1 t2 (s1 *ℚ w) (s2 *ℚ w) (before-lt t1 t2 h) (rw (e, f) (ring_ℚ (t1 ∷ t2 ∷ l ∷ []) ((T ⊖ L) ⊕ V) ((V ⊖ L) ⊕ T) refl)))))

nil_is : (w l : Ratio) → nil *ℚ w ≡ l -ℚ l
nil_is w l = let W = at 0 in let L = at 1 in ring_ℚ (w ∷ l ∷ []) (lit (pos 0) ⊗ W) (L ⊖ L) refl

one_is : (w : Ratio) → one *ℚ w ≡ w
one_is w = let W = at 0 in ring_ℚ (w ∷ []) (lit (pos 1) ⊗ W) W refl

same_place : (r : SpanOf) (t s : Ratio) → before r.lower r.upper ≡ true → IsGone r.lower r.upper t s → has r t ≡ in_unit r.lower_inc r.upper_inc s
same_place r t s h e =
    let w = r.upper -ℚ r.lower in
    let hw = sub_lt r.lower r.upper (before-lt r.lower r.upper h) in
    let a = less_by w r.lower nil s r.lower t hw (nil_is w r.lower) e.is in
    let b = less_by w r.lower s nil t r.lower hw e.is (nil_is w r.lower) in
    let c = less_by w r.lower s one t r.upper hw e.is (one_is w) in
    let d = less_by w r.lower one s r.upper t hw (one_is w) e.is in
    rw (a, b, c, d) refl

on_place : (x0 x1 l u t s : Ratio) → before l u ≡ true → IsGone l u t s → line_at x0 x1 l u t ≡ going x0 x1 s
on_place x0 x1 l u t s h e =
    let X = at 0 in let Y = at 1 in let L = at 2 in let U = at 3 in let T = at 4 in let S = at 5 in
    let xs = x0 ∷ x1 ∷ l ∷ u ∷ t ∷ s ∷ [] in
    line_at-known x0 x1 l u t (going x0 x1 s) h (record {
      is = ring_ℚ xs ((X ⊕ S ⊗ (Y ⊖ X)) ⊗ (U ⊖ L)) (X ⊗ (U ⊖ L) ⊕ (S ⊗ (U ⊖ L)) ⊗ (Y ⊖ X)) refl
          ∙ ap (λ z. x0 *ℚ (u -ℚ l) +ℚ z *ℚ (x1 -ℚ x0)) e.is
          ∙ ring_ℚ xs (X ⊗ (U ⊖ L) ⊕ (T ⊖ L) ⊗ (Y ⊖ X)) (X ⊗ (U ⊖ T) ⊕ Y ⊗ (T ⊖ L)) refl;
    })

gone_of : (l u t : Ratio) → before l u ≡ true → IsGone l u t ((t -ℚ l) /ℚ (u -ℚ l))
gone_of l u t h = record { is = div-mul (t -ℚ l) (u -ℚ l) (sub_ne-zero l u (before-lt l u h)) }

gone_at : (l u s : Ratio) → IsGone l u (l +ℚ s *ℚ (u -ℚ l)) s
gone_at l u s = let L = at 0 in let U = at 1 in let S = at 2 in record { is = ring_ℚ (l ∷ u ∷ s ∷ []) (S ⊗ (U ⊖ L)) ((L ⊕ S ⊗ (U ⊖ L)) ⊖ L) refl }

-- ---- the squared length along the segment
abbrev pub square_at : Leg → SpanOf → Ratio → Ratio
square_at g r t = length_squared (line_at g.x0 g.x1 r.lower r.upper t) (line_at g.y0 g.y1 r.lower r.upper t)

square_gone : (g : Leg) (r : SpanOf) (t s : Ratio) → before r.lower r.upper ≡ true → IsGone r.lower r.upper t s → square_at g r t ≡ quadratic (way g) (along g) (start g) s
square_gone g r t s h e = rw (on_place g.x0 g.x1 r.lower r.upper t s h e, on_place g.y0 g.y1 r.lower r.upper t s h e) (as_quadratic g.x0 g.y0 g.x1 g.y1 s)

foot_same : (g : Leg) (D : Ratio) → nil ≤ℚ D → (b : Bool) → dips (way g) (along g) ≡ b → (b && square_is_within (way g) (foot_of g).across D) ≡ (b && up_to (scaled_least (way g) (along g) (start g)) (way g *ℚ D))
foot_same g D h false e = refl
foot_same g D h true e = inner_test (way g) (foot_of g).across D (inner (way g) (along g) (start g) e).1.positive h ∙ ap (λ z. up_to z (way g *ℚ D)) (sym (as_across g))

same_test : (g : Leg) (D : Ratio) (lower_inc upper_inc : Bool) → nil ≤ℚ D → leg_reaches D lower_inc upper_inc g ≡ reaches (way g) (along g) (start g) D lower_inc upper_inc
same_test g D lower_inc upper_inc h = rw (as_last g, foot_same g D h (dips (way g) (along g)) refl) refl

last_le : (g : Leg) → nil ≤ℚ at_one (way g) (along g) (start g)
last_le g = rw (as_last g) (squared_le g.x1 g.y1)

-- somewhere on the segment the squared length is at most D, exactly if the test is true
pub reached : (g : Leg) (r : SpanOf) (D : Ratio) → before r.lower r.upper ≡ true → nil ≤ℚ D → (leg_reaches D r.lower_inc r.upper_inc g ≡ true) ↔ ((t : Ratio) × (has r t ≡ true) × (up_to (square_at g r t) D ≡ true))
reached g r D h hd =
    let d = decided (way g) (along g) (start g) D r.lower_inc r.upper_inc (squared_le _ _) (squared_le g.x0 g.y0) (last_le g) in (
      (λ e.
          let f = d.0 (sym (same_test g D r.lower_inc r.upper_inc hd) ∙ e) in
          let s = f.0 in
          let t = r.lower +ℚ s *ℚ (r.upper -ℚ r.lower) in
          let p = gone_at r.lower r.upper s in
          (t, same_place r t s h p ∙ f.1.inside, rw (square_gone g r t s h p) f.1.near)),
      (λ f.
          let t = f.0 in
          let s = (t -ℚ r.lower) /ℚ (r.upper -ℚ r.lower) in
          let p = gone_of r.lower r.upper t h in
          same_test g D r.lower_inc r.upper_inc hd ∙ d.1 (s, record { inside = sym (same_place r t s h p) ∙ f.1; near = rw (← square_gone g r t s h p) f.2 })),
    )

approach_cases : (g : Leg) (b : Bool) → dips (way g) (along g) ≡ b → leg_approach g ≡ infimum (way g) (along g) (start g)
approach_cases g true e = rw (e, as_across g, mul_assoc (foot_of g).across (foot_of g).across) refl
approach_cases g false e = rw (e, as_last g) refl

-- and the greatest lower bound is that of the whole segment
pub record IsLeastOn (g : Leg) (r : SpanOf) (m : Ratio) : Type 0 where
  pub lower : (t : Ratio) → has r t ≡ true → up_to m (square_at g r t) ≡ true
  pub greatest : (n : Ratio) → before m n ≡ true → (t : Ratio) × (has r t ≡ true) × (before (square_at g r t) n ≡ true)

pub approached : (g : Leg) (r : SpanOf) → before r.lower r.upper ≡ true → IsLeastOn g r (leg_approach g)
approached g r h =
    let d = bounded (way g) (along g) (start g) r.lower_inc r.upper_inc (squared_le _ _) (squared_le g.x0 g.y0) (last_le g) in
    let e = approach_cases g (dips (way g) (along g)) refl in
    subst (λ m. IsLeastOn g r m) (sym e) (record {
      lower = λ t w.
          let s = (t -ℚ r.lower) /ℚ (r.upper -ℚ r.lower) in
          let p = gone_of r.lower r.upper t h in
          rw (square_gone g r t s h p) (d.lower s (sym (same_place r t s h p) ∙ w));
      greatest = λ n k.
          let f = d.greatest n k in
          let s = f.0 in
          let t = r.lower +ℚ s *ℚ (r.upper -ℚ r.lower) in
          let p = gone_at r.lower r.upper s in
          (t, same_place r t s h p ∙ f.1.inside, rw (square_gone g r t s h p) f.1.under);
    })
