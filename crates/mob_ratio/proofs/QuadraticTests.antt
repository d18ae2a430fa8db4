-- The test by signs is exact.
use Rattle.std.proofs.Common.{◌≡◌, Bool, true, false, cond, ◌&&◌, ◌||◌, ◌⊎◌, ◌↔◌, inl, inr, pos, [], ◌∷◌, arith, refl, sym, ap, ◌∙◌, subst, true≢false}
use Rattle.mob_ratio.{specs.Ratio.{Ratio, over, ◌+ℚ◌, ◌-ℚ◌, neg_ℚ, ◌*ℚ◌, ◌/ℚ◌, ◌<ℚ◌, ◌≤ℚ◌}, specs.Order.{before, up_to}, specs.Sign.{nil}}
use Rattle.mob_ratio.specs.Quadratic.{one, quadratic, at_one, in_unit, dips, scaled_least, reaches, IsAtMost, infimum, IsUnderAt, IsInfimum}
use Rattle.mob_ratio.{proofs.Order.{before-lt, lt-before, before-self, before-back, before-neither, up_to-le, le-up_to, not-up_to-le, le-test}, proofs.IntRing.{linear}, proofs.Clear.{clear2, cleared}}
use Rattle.mob_ratio.{proofs.Field.{le_by, lt_by, le_trans, le_of_lt, cases_lt, not_both, le_refl, mul_comm, midpoint, lt_of_mul_pos, le_lt, neg_lt}, proofs.Divide.{div-mul}}
use Rattle.mob_ratio.{proofs.Ring.{at, lit, minus, ◌⊕◌, ◌⊗◌, ◌⊖◌}, proofs.Rings.{ring_ℚ}}
use Rattle.mob_ratio.proofs.Convex.{above_ne, mul_le, add_le, sub_le, sub_lt, le_of_mul_pos, le_mul_pos, one_above, least, taken, rises, rises_above, back, mirror, mirror_last, convex}
use Rattle.mob_ratio.proofs.Convex.{quadratic-first, quadratic-at_one, IsBelowInside, below_first, below_last}

-- ---- inside the interval
strictly_within : (li ui : Bool) (s : Ratio) → nil <ℚ s → s <ℚ one → in_unit li ui s ≡ true
strictly_within li ui s h k = rw (lt-before nil s h, lt-before s one k) refl

first_within : (ui : Bool) → in_unit true ui nil ≡ true
first_within ui = rw (lt-before nil one one_above, before-self nil) refl

last_within : (li : Bool) → in_unit li true one ≡ true
last_within li = rw (lt-before nil one one_above, before-self one) refl

within_lower : (li ui : Bool) (s : Ratio) → in_unit li ui s ≡ true → nil ≤ℚ s
within_lower li ui s h = up_to-le nil s (grind (arith, h, before-back nil s))

within_upper : (li ui : Bool) (s : Ratio) → in_unit li ui s ≡ true → s ≤ℚ one
within_upper li ui s h = up_to-le s one (grind (arith, h, before-back s one))

-- ---- a true test gives an instant
from_below : (a b c d : Ratio) (li ui : Bool) → (s : Ratio) × IsBelowInside a b c d s → (s : Ratio) × IsAtMost a b c d li ui s
from_below a b c d li ui (s, f) = (s, record { inside = strictly_within li ui s f.after f.until; near = le-test _ _ (le_of_lt _ _ f.below) })

at_first : (a b c d : Ratio) (ui : Bool) → up_to c d ≡ true → (s : Ratio) × IsAtMost a b c d true ui s
at_first a b c d ui h = (nil, record { inside = first_within ui; near = rw (quadratic-first a b c) h })

at_last : (a b c d : Ratio) (li : Bool) → up_to (at_one a b c) d ≡ true → (s : Ratio) × IsAtMost a b c d li true s
at_last a b c d li h = (one, record { inside = last_within li; near = rw (quadratic-at_one a b c) h })

chord : (c e d s : Ratio) → nil ≤ℚ s → s ≤ℚ one → c ≤ℚ d → e ≤ℚ d → (c +ℚ s *ℚ (e -ℚ c)) ≤ℚ d
chord c e d s hs ht h k =
    let S = at 0 in let C = at 1 in let E = at 2 in let D = at 3 in
    le_by nil (s *ℚ (d -ℚ e) +ℚ (one -ℚ s) *ℚ (d -ℚ c)) _ _
    (add_le _ _ (mul_le s (d -ℚ e) hs (sub_le e d k)) (mul_le (one -ℚ s) (d -ℚ c) (sub_le s one ht) (sub_le c d h)))
    (ring_ℚ (s ∷ c ∷ e ∷ d ∷ []) ((C ⊕ S ⊗ (E ⊖ C)) ⊕ (S ⊗ (D ⊖ E) ⊕ (lit (pos 1) ⊖ S) ⊗ (D ⊖ C))) (D ⊕ lit (pos 0)) refl)

at_both : (a b c d : Ratio) (li ui : Bool) → nil ≤ℚ a → up_to c d ≡ true → up_to (at_one a b c) d ≡ true → (s : Ratio) × IsAtMost a b c d li ui s
at_both a b c d li ui ha h k =
    let m = midpoint nil one one_above in
    let s : Ratio = over (pos 1) 2 *ℚ (nil +ℚ one) in
    let lo = le_of_lt nil s m.0 in
    let hi = le_of_lt s one m.1 in (
      s,
      record {
        inside = strictly_within li ui s m.0 m.1;
        near = le-test _ _ (le_trans _ _ d (convex a b c s ha lo hi) (chord c (at_one a b c) d s lo hi (not-up_to-le c d h) (not-up_to-le _ d k)));
      },
    )

-- the place of the least value
pub record IsInner (a b c s : Ratio) : Type 0 where
  pub positive : nil <ℚ a
  pub after : nil <ℚ s
  pub until : s <ℚ one
  pub value : a *ℚ quadratic a b c s ≡ scaled_least a b c

pub pos_by : (a b : Ratio) → b <ℚ nil → nil <ℚ (a +ℚ b) → nil <ℚ a
pos_by = clear2 _ (λ D a b p h k. let h' = simp cleared at h in let k' = simp cleared at k in simp cleared (omega (arith, linear)))

inner_by : (a b c s : Ratio) → b <ℚ nil → nil <ℚ (a +ℚ b) → s *ℚ a ≡ neg_ℚ b → IsInner a b c s
inner_by a b c s hb hab e =
    let A = at 0 in let B = at 1 in let S = at 2 in
    let ha = pos_by a b hb hab in
    record {
      positive = ha;
      after = lt_of_mul_pos nil s a ha (lt_by nil (neg_ℚ b) _ _ (neg_lt b hb) (ap (λ z. nil *ℚ a +ℚ z) (sym e) ∙ ring_ℚ (a ∷ b ∷ s ∷ []) (lit (pos 0) ⊗ A ⊕ S ⊗ A) (S ⊗ A ⊕ lit (pos 0)) refl));
      until = lt_of_mul_pos s one a ha (lt_by nil (a +ℚ b) _ _ hab (ap (λ z. z +ℚ (a +ℚ b)) e ∙ ring_ℚ (a ∷ b ∷ s ∷ []) (minus B ⊕ (A ⊕ B)) (lit (pos 1) ⊗ A ⊕ lit (pos 0)) refl));
      value = taken a b c s (ap (λ z. z +ℚ b) (mul_comm a s ∙ e) ∙ ring_ℚ (a ∷ b ∷ []) (minus B ⊕ B) (lit (pos 0)) refl);
    }

pub inner : (a b c : Ratio) → dips a b ≡ true → (s : Ratio) × IsInner a b c s
inner a b c h =
    let hb = before-lt b nil (grind (arith, h)) in
    let hab = before-lt nil (a +ℚ b) (grind (arith, h)) in
    (neg_ℚ b /ℚ a, inner_by a b c (neg_ℚ b /ℚ a) hb hab (div-mul (neg_ℚ b) a (above_ne a (pos_by a b hb hab))))

le_of_mul_left : (a p q : Ratio) → nil <ℚ a → (a *ℚ p) ≤ℚ (a *ℚ q) → p ≤ℚ q
le_of_mul_left a p q ha h = le_of_mul_pos p q a ha (rw (mul_comm p a, mul_comm q a) h)

le_mul_left : (a p q : Ratio) → nil ≤ℚ a → p ≤ℚ q → (a *ℚ p) ≤ℚ (a *ℚ q)
le_mul_left a p q ha h = rw (mul_comm a p, mul_comm a q) (le_mul_pos p q a ha h)

at_inner : (a b c d : Ratio) (li ui : Bool) → dips a b ≡ true → up_to (scaled_least a b c) (a *ℚ d) ≡ true → (s : Ratio) × IsAtMost a b c d li ui s
at_inner a b c d li ui h k =
    let f = inner a b c h in
    let i = f.1 in (
      f.0,
      record {
        inside = strictly_within li ui f.0 i.after i.until;
        near = le-test _ _ (le_of_mul_left a _ d i.positive (rw i.value (not-up_to-le _ _ k)));
      },
    )

-- one of six cases holds
pub some : (a b c d : Ratio) (li ui : Bool) → nil ≤ℚ a → nil ≤ℚ c → nil ≤ℚ at_one a b c → (p q : Bool) → before c d ≡ p → before (at_one a b c) d ≡ q → (r s t v : Bool) → (li && up_to c d) ≡ r → (ui && up_to (at_one a b c) d) ≡ s → (up_to c d && up_to (at_one a b c) d) ≡ t → (dips a b && up_to (scaled_least a b c) (a *ℚ d)) ≡ v → (p || q || r || s || t || v) ≡ true → (s : Ratio) × IsAtMost a b c d li ui s
some a b c d li ui ha hc hl true q ep eq r s t v er es et ev h = from_below a b c d li ui (below_first a b c d ha hc hl (before-lt c d ep))
some a b c d li ui ha hc hl false true ep eq r s t v er es et ev h = from_below a b c d li ui (below_last a b c d ha hc hl (before-lt _ d eq))
some a b c d true ui ha hc hl false false ep eq true s t v er es et ev h = at_first a b c d ui er
some a b c d false ui ha hc hl false false ep eq true s t v er es et ev h = absurd (true≢false (sym er))
some a b c d li true ha hc hl false false ep eq false true t v er es et ev h = at_last a b c d li es
some a b c d li false ha hc hl false false ep eq false true t v er es et ev h = absurd (true≢false (sym es))
some a b c d li ui ha hc hl false false ep eq false false true v er es et ev h = at_both a b c d li ui ha (grind (arith, et)) (grind (arith, et))
some a b c d li ui ha hc hl false false ep eq false false false true er es et ev h = at_inner a b c d li ui (grind (arith, ev)) (grind (arith, ev))
some a b c d li ui ha hc hl false false ep eq false false false false er es et ev h = absurd (true≢false (sym h))

-- ---- an instant makes one of the tests true
-- from a slope of at least 0 on
pub record IsLeft (c e d : Ratio) (li : Bool) : Type 0 where
  pub at_most : c ≤ℚ d
  pub how : ((c <ℚ d) ⊎ (li ≡ true)) ⊎ (e ≤ℚ d)

not_lt_le : (a b : Ratio) → (a <ℚ b → ⊥) → b ≤ℚ a
not_lt_le a b f = elim (cases_lt a b) [ inl h ↦ absurd (f h) | inr h ↦ h ]

how_by : (a b c d s : Ratio) (li : Bool) → nil ≤ℚ a → nil ≤ℚ b → s ≤ℚ one → (li ≡ true) ⊎ (nil <ℚ s) → quadratic a b c s ≤ℚ d → (c <ℚ d) ⊎ (d ≤ℚ c) → ((c <ℚ d) ⊎ (li ≡ true)) ⊎ (at_one a b c ≤ℚ d)
how_by a b c d s li ha hb ht (inl e) h k = inl (inr e)
how_by a b c d s li ha hb ht (inr f) h (inl k) = inl (inl k)
how_by a b c d s li ha hb ht (inr f) h (inr k) =
    inr (not_lt_le d (at_one a b c) (λ g. not_both c (quadratic a b c s) (rises_above a b c s hb f ht (le_lt c d _ (le_trans c _ d (rises a b c s ha hb (le_of_lt nil s f)) h) g)) (le_trans _ d c h k)))

left_by : (a b c d s : Ratio) (li : Bool) → nil ≤ℚ a → nil ≤ℚ b → nil ≤ℚ s → s ≤ℚ one → (li ≡ true) ⊎ (nil <ℚ s) → quadratic a b c s ≤ℚ d → IsLeft c (at_one a b c) d li
left_by a b c d s li ha hb hs ht w h = record {
  at_most = le_trans c _ d (rises a b c s ha hb hs) h;
  how = how_by a b c d s li ha hb ht w h (cases_lt c d);
}

within_left : (li ui : Bool) (s : Ratio) → in_unit li ui s ≡ true → (p : Bool) → before nil s ≡ p → (li ≡ true) ⊎ (nil <ℚ s)
within_left li ui s h true e = inr (before-lt nil s e)
within_left li ui s h false e = inl (grind (arith, h, e))

within_right : (li ui : Bool) (s : Ratio) → in_unit li ui s ≡ true → (p : Bool) → before s one ≡ p → (ui ≡ true) ⊎ (s <ℚ one)
within_right li ui s h true e = inr (before-lt s one e)
within_right li ui s h false e = inl (grind (arith, h, e))

flip : (s : Ratio) (ui : Bool) → (ui ≡ true) ⊎ (s <ℚ one) → (ui ≡ true) ⊎ (nil <ℚ (one -ℚ s))
flip s ui (inl e) = inl e
flip s ui (inr h) = inr (sub_lt s one h)

back_le : (a b : Ratio) → (a +ℚ b) ≤ℚ nil → nil ≤ℚ back a b
back_le a b h = let A = at 0 in let B = at 1 in le_by (a +ℚ b) nil nil (back a b) h (ring_ℚ (a ∷ b ∷ []) (lit (pos 0) ⊕ lit (pos 0)) (minus (A ⊕ B) ⊕ (A ⊕ B)) refl)

back_until : (s : Ratio) → nil ≤ℚ s → (one -ℚ s) ≤ℚ one
back_until s h = let S = at 0 in le_by nil s (one -ℚ s) one h (ring_ℚ (s ∷ []) ((lit (pos 1) ⊖ S) ⊕ S) (lit (pos 1) ⊕ lit (pos 0)) refl)

right_by : (a b c d s : Ratio) (ui : Bool) → nil ≤ℚ a → (a +ℚ b) ≤ℚ nil → nil ≤ℚ s → s ≤ℚ one → (ui ≡ true) ⊎ (s <ℚ one) → quadratic a b c s ≤ℚ d → IsLeft (at_one a b c) c d ui
right_by a b c d s ui ha hb hs ht w h =
    subst (λ z. IsLeft (at_one a b c) z d ui) (mirror_last a b c) (left_by a (back a b) (at_one a b c) d (one -ℚ s) ui ha (back_le a b hb) (sub_le s one ht) (back_until s hs) (flip s ui w) (rw (mirror a b c s) h))

from_left : (c e d : Ratio) (li ui r : Bool) → IsLeft c e d li → (before c d || before e d || (li && up_to c d) || (ui && up_to e d) || (up_to c d && up_to e d) || r) ≡ true
from_left c e d li ui r f = elim f.how [
  | inl k ↦ (elim k [
    | inl g ↦ (rw (lt-before c d g) refl)
    | inr g ↦ (let m = le-up_to c d f.at_most in grind (arith, m, g))
  ])
  | inr k ↦ (let m = le-up_to c d f.at_most in let n = le-up_to e d k in grind (arith, m, n))
]

from_right : (c e d : Ratio) (li ui r : Bool) → IsLeft e c d ui → (before c d || before e d || (li && up_to c d) || (ui && up_to e d) || (up_to c d && up_to e d) || r) ≡ true
from_right c e d li ui r f = elim f.how [
  | inl k ↦ (elim k [
    | inl g ↦ (let m = lt-before e d g in grind (arith, m))
    | inr g ↦ (let m = le-up_to e d f.at_most in grind (arith, m, g))
  ])
  | inr k ↦ (let m = le-up_to e d f.at_most in let n = le-up_to c d k in grind (arith, m, n))
]

each_by : (a b c d : Ratio) (li ui : Bool) (s : Ratio) → nil ≤ℚ a → IsAtMost a b c d li ui s → (p q : Bool) → before b nil ≡ p → before nil (a +ℚ b) ≡ q → reaches a b c d li ui ≡ true
each_by a b c d li ui s ha n false q ep eq =
    from_left c (at_one a b c) d li ui _ (left_by a b c d s li ha (up_to-le nil b ep) (within_lower li ui s n.inside) (within_upper li ui s n.inside) (within_left li ui s n.inside _ refl) (not-up_to-le _ d n.near))
each_by a b c d li ui s ha n true false ep eq =
    from_right c (at_one a b c) d li ui _ (right_by a b c d s ui ha (up_to-le (a +ℚ b) nil eq) (within_lower li ui s n.inside) (within_upper li ui s n.inside) (within_right li ui s n.inside _ refl) (not-up_to-le _ d n.near))
each_by a b c d li ui s ha n true true ep eq =
    let m = le-up_to (scaled_least a b c) (a *ℚ d) (le_trans _ _ _ (least a b c s) (le_mul_left a _ d ha (not-up_to-le _ d n.near))) in
    grind (arith, m, ep, eq)

-- the table is exact
pub decided : (a b c d : Ratio) (li ui : Bool) → nil ≤ℚ a → nil ≤ℚ c → nil ≤ℚ at_one a b c → (reaches a b c d li ui ≡ true) ↔ ((s : Ratio) × IsAtMost a b c d li ui s)
decided a b c d li ui ha hc hl = (
  (λ h. some a b c d li ui ha hc hl _ _ refl refl _ _ _ _ refl refl refl refl h),
  (λ f. each_by a b c d li ui f.0 ha f.1 _ _ refl refl),
)

-- ---- the greatest lower bound
under : (a b c n : Ratio) (li ui : Bool) → (s : Ratio) × IsBelowInside a b c n s → (s : Ratio) × IsUnderAt a b c n li ui s
under a b c n li ui (s, f) = (s, record { inside = strictly_within li ui s f.after f.until; under = lt-before _ _ f.below })

bound_inner : (a b c : Ratio) (li ui : Bool) → nil ≤ℚ a → dips a b ≡ true → IsInfimum a b c li ui (scaled_least a b c /ℚ a)
bound_inner a b c li ui ha h =
    let f = inner a b c h in
    let i = f.1 in
    let m = scaled_least a b c /ℚ a in
    let e : a *ℚ m ≡ scaled_least a b c = mul_comm a m ∙ div-mul (scaled_least a b c) a (above_ne a i.positive) in
    record {
      lower = λ s w. le-test _ _ (le_of_mul_left a m _ i.positive (rw e (least a b c s)));
      greatest = λ n k. (
        f.0,
        record {
          inside = strictly_within li ui f.0 i.after i.until;
          under = lt-before _ _ (le_lt _ m n (le_of_mul_left a _ m i.positive (rw (e, i.value) (le_refl _))) (before-lt m n k));
        },
      );
    }

falls : (a b c s : Ratio) → nil ≤ℚ a → (a +ℚ b) ≤ℚ nil → nil ≤ℚ s → s ≤ℚ one → at_one a b c ≤ℚ quadratic a b c s
falls a b c s ha hb hs ht = rw (← mirror a b c s) (rises a (back a b) (at_one a b c) (one -ℚ s) ha (back_le a b hb) (sub_le s one ht))

bound_first : (a b c : Ratio) (li ui : Bool) → nil ≤ℚ a → nil ≤ℚ c → nil ≤ℚ at_one a b c → nil ≤ℚ b → IsInfimum a b c li ui c
bound_first a b c li ui ha hc hl hb = record {
  lower = λ s w. le-test _ _ (rises a b c s ha hb (within_lower li ui s w));
  greatest = λ n k. under a b c n li ui (below_first a b c n ha hc hl (before-lt c n k));
}

bound_last : (a b c : Ratio) (li ui : Bool) → nil ≤ℚ a → nil ≤ℚ c → nil ≤ℚ at_one a b c → (a +ℚ b) ≤ℚ nil → IsInfimum a b c li ui (at_one a b c)
bound_last a b c li ui ha hc hl hb = record {
  lower = λ s w. le-test _ _ (falls a b c s ha hb (within_lower li ui s w) (within_upper li ui s w));
  greatest = λ n k. under a b c n li ui (below_last a b c n ha hc hl (before-lt _ n k));
}

first_less : (a b c : Ratio) → nil ≤ℚ a → nil ≤ℚ b → before (at_one a b c) c ≡ false
first_less a b c ha hb = le-up_to c (at_one a b c) (rw (← quadratic-at_one a b c) (rises a b c one ha hb (le_of_lt nil one one_above)))

last_less : (a b c : Ratio) → nil ≤ℚ a → (a +ℚ b) ≤ℚ nil → (p : Bool) → before (at_one a b c) c ≡ p → cond p (at_one a b c) c ≡ at_one a b c
last_less a b c ha hb true e = refl
last_less a b c ha hb false e = before-neither c (at_one a b c) (le-up_to (at_one a b c) c (subst (λ z. at_one a b c ≤ℚ z) (quadratic-first a b c) (falls a b c nil ha hb (le_refl nil) (le_of_lt nil one one_above)))) e

bound_by : (a b c : Ratio) (li ui : Bool) → nil ≤ℚ a → nil ≤ℚ c → nil ≤ℚ at_one a b c → (p q : Bool) → before b nil ≡ p → before nil (a +ℚ b) ≡ q → IsInfimum a b c li ui (infimum a b c)
bound_by a b c li ui ha hc hl true true ep eq = rw (ep, eq) (bound_inner a b c li ui ha (rw (ep, eq) refl))
bound_by a b c li ui ha hc hl false q ep eq = let hb = up_to-le nil b ep in rw (ep, first_less a b c ha hb) (bound_first a b c li ui ha hc hl hb)
bound_by a b c li ui ha hc hl true false ep eq = let hb = up_to-le (a +ℚ b) nil eq in rw (ep, eq, last_less a b c ha hb (before (at_one a b c) c) refl) (bound_last a b c li ui ha hc hl hb)

pub bounded : (a b c : Ratio) (li ui : Bool) → nil ≤ℚ a → nil ≤ℚ c → nil ≤ℚ at_one a b c → IsInfimum a b c li ui (infimum a b c)
bounded a b c li ui ha hc hl = bound_by a b c li ui ha hc hl _ _ refl refl
