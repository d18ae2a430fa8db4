-- When two linear functions are both 0, strictly between the ends of a span.
use Rattle.std.{specs.Prelude.{◌≡◌, Bool, true, false, cond, ◌&&◌, ◌||◌, refl}, specs.Ordering.{is_eq}}
use Rattle.std.{proofs.Common.{ap, sym, ◌∙◌, subst, true≢false}, proofs.lemmas.Bool.{and_parts, false_from_ne_true}}
use Rattle.mob_ratio.{specs.Ratio.{Ratio, ◌/ℚ◌}, specs.Order.{before, same}, specs.Line.{line_at}, specs.Sign.{nil, opposite, root_at, sign_of, IsRoot}}
use Rattle.mob_ratio.{proofs.Divide.{quotients_same}, proofs.LineAt.{line_at-level}, proofs.Order.{before-differ, before-differ-back, before-neither, same_exact}, proofs.Signs.{eq_sign, root_holds}}
use Rattle.mob_span.specs.Span.{SpanOf}
use Rattle.mob_cells.{specs.declared.linear.Ends.{Ends}, specs.declared.turning.Meeting.TheVariants.{Never, Always, Once}, specs.Turnings.{IsMeeting, shares_root}, proofs.SharedRoots.{level_sign, no_opposite, one_ratio, same_root}, proofs.Zeros.{long_of}}

-- a linear function on a span, by its ends
abbrev pub gap : Ratio → Ratio → Ends
gap f g = record { at_lower = f; at_upper = g }

and_false : (b : Bool) → (b && false) ≡ false
and_false true = refl
and_false false = refl

and_true : (b : Bool) → (b && true) ≡ b
and_true true = refl
and_true false = refl

-- ---- one function

-- it is nowhere 0 if its ends are not opposite and not both 0
apart_inside : (f g l u t : Ratio) → before l t ≡ true → before t u ≡ true → opposite f g ≡ false → (same f nil && same g nil) ≡ false → same (line_at f g l u t) nil ≡ false
apart_inside f g l u t a b o n = sym (eq_sign (line_at f g l u t)) ∙ ap is_eq (level_sign f g l u t a b o) ∙ by (same f nil) refl n
  where
    by : (x : Bool) → same f nil ≡ x → (x && same g nil) ≡ false → is_eq (cond x (sign_of g) (sign_of f)) ≡ false
    by true e k = eq_sign g ∙ k
    by false e k = eq_sign f ∙ e

-- it is 0 everywhere if both ends are
nil_line : (f g l u t : Ratio) → (same f nil && same g nil) ≡ true → same (line_at f g l u t) nil ≡ true
nil_line f g l u t h =
    let w = and_parts (same f nil) (same g nil) h in
    let a = (same_exact f nil).0 w.0 in
    let b = (same_exact g nil).0 w.1 in
    (same_exact (line_at f g l u t) nil).1 (ap (λ z. line_at z g l u t) a ∙ ap (λ z. line_at nil z l u t) b ∙ line_at-level nil l u t)

-- and at its root alone if its ends are opposite
nil_at_root : (f g l u r t : Ratio) → IsRoot f g l u r → opposite f g ≡ true → same (line_at f g l u t) nil ≡ same t r
nil_at_root f g l u r t i o = by (before t r) refl (before r t) refl
  where
    by : (a : Bool) → before t r ≡ a → (b : Bool) → before r t ≡ b → same (line_at f g l u t) nil ≡ same t r
    by true e b k = sym (eq_sign (line_at f g l u t)) ∙ ap is_eq (i.left t e) ∙ eq_sign f ∙ (no_opposite f g o).0 ∙ sym (before-differ t r e)
    by false e true k = sym (eq_sign (line_at f g l u t)) ∙ ap is_eq (i.right t k) ∙ eq_sign g ∙ (no_opposite f g o).1 ∙ sym (before-differ-back r t k)
    by false e false k =
        let q : t ≡ r = before-neither t r e k in
        (same_exact (line_at f g l u t) nil).1 (ap (λ z. line_at f g l u z) q ∙ i.zero) ∙ sym ((same_exact t r).1 q)

-- the root on a span
pub root_on : (s : SpanOf) (f g r : Ratio) → (before s.lower s.upper ≡ false → f ≡ g) → opposite f g ≡ true → r ≡ root_at f g s.lower s.upper → IsRoot f g s.lower s.upper r
root_on s f g r level o e = subst (IsRoot f g s.lower s.upper) (sym e) (root_holds f g s.lower s.upper (long_of s (gap f g) level o (before s.lower s.upper) refl) o)

-- ---- two functions
module _ (s : SpanOf) (f g e h : Ratio) where
  pub never_first : opposite f g ≡ false → (same f nil && same g nil) ≡ false → IsMeeting s (gap f g) (gap e h) Never
  never_first o n t a b = ap (λ z. z && same (line_at e h s.lower s.upper t) nil) (apart_inside f g s.lower s.upper t a b o n)

  pub never_second : opposite e h ≡ false → (same e nil && same h nil) ≡ false → IsMeeting s (gap f g) (gap e h) Never
  never_second o n t a b = ap (λ z. same (line_at f g s.lower s.upper t) nil && z) (apart_inside e h s.lower s.upper t a b o n) ∙ and_false (same (line_at f g s.lower s.upper t) nil)

  pub always_nil : (same f nil && same g nil) ≡ true → (same e nil && same h nil) ≡ true → IsMeeting s (gap f g) (gap e h) Always
  always_nil m n t a b = ap (λ z. z && same (line_at e h s.lower s.upper t) nil) (nil_line f g s.lower s.upper t m) ∙ nil_line e h s.lower s.upper t n

  -- the first is 0 everywhere, and the second crosses 0
  pub once_second : (r : Ratio) → (same f nil && same g nil) ≡ true → opposite e h ≡ true → IsRoot e h s.lower s.upper r → IsMeeting s (gap f g) (gap e h) (Once r)
  once_second r m o i = (i.after, i.until, λ t a b. ap (λ z. z && same (line_at e h s.lower s.upper t) nil) (nil_line f g s.lower s.upper t m) ∙ nil_at_root e h s.lower s.upper r t i o)

  -- the first crosses 0, and the second is 0 there
  once_beside : (r t : Ratio) → opposite f g ≡ true → IsRoot f g s.lower s.upper r → line_at e h s.lower s.upper r ≡ nil → (same (line_at f g s.lower s.upper t) nil && same (line_at e h s.lower s.upper t) nil) ≡ same t r
  once_beside r t o i z = ap (λ b. b && same (line_at e h s.lower s.upper t) nil) (nil_at_root f g s.lower s.upper r t i o) ∙ by (same t r) refl
    where
      by : (b : Bool) → same t r ≡ b → (b && same (line_at e h s.lower s.upper t) nil) ≡ b
      by true q = (same_exact (line_at e h s.lower s.upper t) nil).1 (ap (λ x. line_at e h s.lower s.upper x) ((same_exact t r).0 q) ∙ z)
      by false q = refl

  -- the two quotients are defined
  not_nil : (q : Ratio) → same q nil ≡ false → q ≡ nil → ⊥
  not_nil q n k = true≢false (sym ((same_exact q nil).1 k) ∙ n)

  second_nil : (r : Ratio) → opposite f g ≡ true → IsRoot f g s.lower s.upper r → (n : Bool) → (same e nil && same h nil) ≡ n → (p : Bool) → opposite e h ≡ p → (n || (true && p && same (f /ℚ g) (e /ℚ h))) ≡ true → line_at e h s.lower s.upper r ≡ nil
  second_nil r o i true en p ep k = (same_exact (line_at e h s.lower s.upper r) nil).0 (nil_line e h s.lower s.upper r en)
  second_nil r o i false en true ep k =
      let ng = not_nil g (no_opposite f g o).1 in
      let nh = not_nil h (no_opposite e h ep).1 in
      same_root f g e h s.lower s.upper r ng ((quotients_same f g e h ng nh).0 ((same_exact (f /ℚ g) (e /ℚ h)).0 k)) i.zero
  second_nil r o i false en false ep k = absurd (true≢false (sym k))

  pub once_first : (r : Ratio) → opposite f g ≡ true → IsRoot f g s.lower s.upper r → shares_root f g e h ≡ true → IsMeeting s (gap f g) (gap e h) (Once r)
  once_first r o i k =
      let z = second_nil r o i (same e nil && same h nil) refl (opposite e h) refl (subst (λ b. ((same e nil && same h nil) || (b && opposite e h && same (f /ℚ g) (e /ℚ h))) ≡ true) o k) in
      (i.after, i.until, λ t a b. once_beside r t o i z)

  apart_roots : opposite f g ≡ true → opposite e h ≡ true → same (f /ℚ g) (e /ℚ h) ≡ false → (t : Ratio) → before s.lower t ≡ true → before t s.upper ≡ true → (same (line_at f g s.lower s.upper t) nil && same (line_at e h s.lower s.upper t) nil) ≡ false
  apart_roots o p n t a b = false_from_ne_true _ (λ k.
      let w = and_parts (same (line_at f g s.lower s.upper t) nil) (same (line_at e h s.lower s.upper t) nil) k in
      let y = (same_exact (line_at f g s.lower s.upper t) nil).0 w.0 in
      let z = (same_exact (line_at e h s.lower s.upper t) nil).0 w.1 in
      let q = (quotients_same f g e h (not_nil g (no_opposite f g o).1) (not_nil h (no_opposite e h p).1)).1 (one_ratio f g e h s.lower s.upper t a b y z) in
      true≢false (sym ((same_exact (f /ℚ g) (e /ℚ h)).1 q) ∙ n))

  never_by : opposite f g ≡ true → (n : Bool) → (same e nil && same h nil) ≡ n → (p : Bool) → opposite e h ≡ p → (n || (true && p && same (f /ℚ g) (e /ℚ h))) ≡ false → IsMeeting s (gap f g) (gap e h) Never
  never_by o true en p ep k = absurd (true≢false k)
  never_by o false en true ep k = apart_roots o ep k
  never_by o false en false ep k = never_second ep en

  pub never_shared : opposite f g ≡ true → shares_root f g e h ≡ false → IsMeeting s (gap f g) (gap e h) Never
  never_shared o k = never_by o (same e nil && same h nil) refl (opposite e h) refl (subst (λ b. ((same e nil && same h nil) || (b && opposite e h && same (f /ℚ g) (e /ℚ h))) ≡ false) o k)
