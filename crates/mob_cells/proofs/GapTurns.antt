-- The results of a comparison on a span, by the gaps at its ends.
use Rattle.std.{specs.Prelude.{◌≡◌, ◌↔◌, IsTrue, Bool, true, false, cond, ◌&&◌, [], ◌∷◌, Some, refl}, specs.declared.cmp.Ordering.TheVariants.{Less, Equal, Greater}, specs.Ordering.{is_eq}}
use Rattle.std.{proofs.Common.{arith, ap, inl, inr, sym, ◌∙◌, subst, true≢false}, proofs.lemmas.Bool.{and_parts}}
use Rattle.mob_ratio.{specs.Ratio.{Ratio}, specs.Order.{before, same, up_to}, specs.Line.{line_at}, specs.Sign.{nil, opposite, sign_of, IsRoot}}
use Rattle.mob_ratio.{proofs.LineAt.{line_at-lower, line_at-upper}, proofs.Order.{before-differ, before-differ-back, before-neither, same_exact, same_truth, strictly-later}, proofs.Signs.{eq_sign, opposite_cases, sign_above, sign_below, sign_nil}}
use Rattle.mob_span.{specs.Span.{SpanOf, has}, proofs.SpanLemmas.{has_upto_lower, has_upto_upper}}
use Rattle.mob_slice.{specs.Ranks.{holds}, specs.declared.comparison.Rel.{Rel}, specs.declared.comparison.Rel.TheVariants.{Eq, Ne, Lt, Le, Gt, Ge}}
use Rattle.mob_cells.{specs.declared.turning.Turning.{Turning}, specs.declared.turning.Meeting.TheVariants.{Never, Always, Once}, specs.Cells.{signs_of}, specs.Gaps.{related_by}}
use Rattle.mob_cells.{specs.Turnings.{IsMeeting, IsTurning, are_nil_at, level, order_by, sign_between, turning_at, turning_inside}, proofs.Meetings.{gap}, proofs.SharedRoots.{level_sign}}

-- ---- an instant of a span is an end of it or lies strictly between its ends
strictly_earlier : (a u : Ratio) → up_to a u ≡ true → same a u ≡ false → before a u ≡ true
unfolding same
strictly_earlier a u h k = grind (arith, h, k)

pub each_by : (s : SpanOf) (w : Turning) (results : Ratio → Bool) → results s.lower ≡ w.at_lower → (before s.lower s.upper ≡ true → results s.upper ≡ w.at_upper) → ((t : Ratio) → before s.lower t ≡ true → before t s.upper ≡ true → results t ≡ turning_inside w.first w.turn t)
    → (t : Ratio) → has s t ≡ true → results t ≡ turning_at s w t
each_by s w results low high inside t i = by (same t s.lower) refl (same t s.upper) refl
  where
    by : (a : Bool) → same t s.lower ≡ a → (b : Bool) → same t s.upper ≡ b → results t ≡ cond a w.at_lower (cond b w.at_upper (turning_inside w.first w.turn t))
    by true ea b eb = ap results ((same_exact t s.lower).0 ea) ∙ low
    by false ea true eb =
        let q : t ≡ s.upper = (same_exact t s.upper).0 eb in
        ap results q ∙ high (subst (λ z. before s.lower z ≡ true) q (strictly-later s.lower t (has_upto_lower s t i) ea))
    by false ea false eb = inside t (strictly-later s.lower t (has_upto_lower s t i) ea) (strictly_earlier t s.upper (has_upto_upper s t i) eb)

-- ---- tests of 0
pub nil_test : (x : Ratio) (r : Bool) → IsTrue r ↔ (x ≡ nil) → r ≡ same x nil
nil_test x r i = same_truth r (same x nil) (λ t. (same_exact x nil).1 (i.0 t)) (λ e. i.1 ((same_exact x nil).0 e))

pub between_nil : (f g : Ratio) (r : Bool) → IsTrue r ↔ (f ≡ nil) → r ≡ true → sign_of g ≡ sign_between f g
between_nil f g r i t = rw (sym (nil_test f r i) ∙ t) refl

pub between_some : (f g : Ratio) (r : Bool) → IsTrue r ↔ (f ≡ nil) → r ≡ false → sign_of f ≡ sign_between f g
between_some f g r i t = rw (sym (nil_test f r i) ∙ t) refl

-- ---- no gap
pub without_gaps : (s : SpanOf) (rel : Rel) (w : Turning) → w ≡ level (holds rel Equal) (holds rel Equal) (holds rel Equal) → IsTurning s [] rel w
without_gaps s rel w e = subst (IsTurning s [] rel) (sym e) (record {
  each = each_by s (level (holds rel Equal) (holds rel Equal) (holds rel Equal)) (λ t. holds rel Equal) refl (λ h. refl) (λ t a b. refl);
  inside = tt;
  zero = tt;
  changes = tt;
})

-- ---- one gap
module _ (s : SpanOf) (rel : Rel) (f g : Ratio) where
  one_low : holds rel (sign_of (line_at f g s.lower s.upper s.lower)) ≡ holds rel (sign_of f)
  one_low = ap (λ z. holds rel (sign_of z)) (line_at-lower f g s.lower s.upper)

  one_high : before s.lower s.upper ≡ true → holds rel (sign_of (line_at f g s.lower s.upper s.upper)) ≡ holds rel (sign_of g)
  one_high h = ap (λ z. holds rel (sign_of z)) (line_at-upper f g s.lower s.upper h)

  pub one_level : opposite f g ≡ false → IsTurning s (gap f g ∷ []) rel (level (holds rel (sign_of f)) (holds rel (sign_between f g)) (holds rel (sign_of g)))
  one_level o = record {
    each = each_by s (level (holds rel (sign_of f)) (holds rel (sign_between f g)) (holds rel (sign_of g))) (λ t. holds rel (sign_of (line_at f g s.lower s.upper t))) one_low one_high (λ t a b. ap (holds rel) (level_sign f g s.lower s.upper t a b o));
    inside = tt;
    zero = tt;
    changes = tt;
  }

  crossing_at : (r t : Ratio) → IsRoot f g s.lower s.upper r → holds rel (sign_of (line_at f g s.lower s.upper t)) ≡ cond (before t r) (holds rel (sign_of f)) (cond (before r t) (holds rel (sign_of g)) (holds rel Equal))
  crossing_at r t i = by (before t r) refl (before r t) refl
    where
      by : (a : Bool) → before t r ≡ a → (b : Bool) → before r t ≡ b → holds rel (sign_of (line_at f g s.lower s.upper t)) ≡ cond a (holds rel (sign_of f)) (cond b (holds rel (sign_of g)) (holds rel Equal))
      by true ea b eb = ap (holds rel) (i.left t ea)
      by false ea true eb = ap (holds rel) (i.right t eb)
      by false ea false eb = ap (λ z. holds rel (sign_of (line_at f g s.lower s.upper z))) (before-neither t r ea eb) ∙ ap (λ z. holds rel (sign_of z)) i.zero ∙ ap (holds rel) sign_nil

-- a comparison is not the same on both sides of 0 and there
rising_changes : (rel : Rel) → holds rel Less ≡ holds rel Equal → holds rel Equal ≡ holds rel Greater → ⊥
rising_changes Eq a b = true≢false (sym a)
rising_changes Ne a b = true≢false a
rising_changes Lt a b = true≢false a
rising_changes Le a b = true≢false b
rising_changes Gt a b = true≢false (sym b)
rising_changes Ge a b = true≢false (sym a)

falling_changes : (rel : Rel) → holds rel Greater ≡ holds rel Equal → holds rel Equal ≡ holds rel Less → ⊥
falling_changes Eq a b = true≢false (sym a)
falling_changes Ne a b = true≢false a
falling_changes Lt a b = true≢false (sym b)
falling_changes Le a b = true≢false (sym a)
falling_changes Gt a b = true≢false a
falling_changes Ge a b = true≢false b

crossing_changes : (rel : Rel) (f g : Ratio) → opposite f g ≡ true → holds rel (sign_of f) ≡ holds rel Equal → holds rel Equal ≡ holds rel (sign_of g) → ⊥
crossing_changes rel f g o a b = elim (opposite_cases f g o) [
  | inl k ↦ rising_changes rel (sym (ap (holds rel) (sign_below f k.0)) ∙ a) (b ∙ ap (holds rel) (sign_above g k.1))
  | inr k ↦ falling_changes rel (sym (ap (holds rel) (sign_above f k.0)) ∙ a) (b ∙ ap (holds rel) (sign_below g k.1))
]

pub one_crossing : (s : SpanOf) (rel : Rel) (f g r : Ratio) → opposite f g ≡ true → IsRoot f g s.lower s.upper r
    → IsTurning s (gap f g ∷ []) rel (record { at_lower = holds rel (sign_of f); first = holds rel (sign_of f); turn = Some (record { at = r; there = holds rel Equal; after = holds rel (sign_of g) }); at_upper = holds rel (sign_of g) })
one_crossing s rel f g r o i =
    let w : Turning = record { at_lower = holds rel (sign_of f); first = holds rel (sign_of f); turn = Some (record { at = r; there = holds rel Equal; after = holds rel (sign_of g) }); at_upper = holds rel (sign_of g) } in
    record {
      each = each_by s w (λ t. holds rel (sign_of (line_at f g s.lower s.upper t))) (one_low s rel f g) (one_high s rel f g) (λ t a b. crossing_at s rel f g r t i);
      inside = (i.after, i.until);
      zero = (i.zero, tt);
      changes = crossing_changes rel f g o;
    }

-- ---- two gaps
module _ (s : SpanOf) (rel : Rel) (f g e h : Ratio) where
  two_related : (t : Ratio) → related_by rel (signs_of s (gap f g ∷ gap e h ∷ []) t) ≡ holds rel (cond (are_nil_at s (gap f g) (gap e h) t) Equal Less)
  two_related t =
      ap (λ b. holds rel (cond b Equal Less)) (ap (λ b. b && is_eq (sign_of (line_at e h s.lower s.upper t))) (eq_sign (line_at f g s.lower s.upper t)) ∙ ap (λ b. same (line_at f g s.lower s.upper t) nil && b) (eq_sign (line_at e h s.lower s.upper t)))

  two_low : related_by rel (signs_of s (gap f g ∷ gap e h ∷ []) s.lower) ≡ holds rel (order_by f e)
  two_low = two_related s.lower ∙ ap (λ z. holds rel (cond (same z nil && same (line_at e h s.lower s.upper s.lower) nil) Equal Less)) (line_at-lower f g s.lower s.upper) ∙ ap (λ z. holds rel (cond (same f nil && same z nil) Equal Less)) (line_at-lower e h s.lower s.upper)

  two_high : before s.lower s.upper ≡ true → related_by rel (signs_of s (gap f g ∷ gap e h ∷ []) s.upper) ≡ holds rel (order_by g h)
  two_high k = two_related s.upper ∙ ap (λ z. holds rel (cond (same z nil && same (line_at e h s.lower s.upper s.upper) nil) Equal Less)) (line_at-upper f g s.lower s.upper k) ∙ ap (λ z. holds rel (cond (same g nil && same z nil) Equal Less)) (line_at-upper e h s.lower s.upper k)

  two_level : (b : Bool) → ((t : Ratio) → before s.lower t ≡ true → before t s.upper ≡ true → holds rel (cond (are_nil_at s (gap f g) (gap e h) t) Equal Less) ≡ b) → IsTurning s (gap f g ∷ gap e h ∷ []) rel (level (holds rel (order_by f e)) b (holds rel (order_by g h)))
  two_level b inside = record {
    each = each_by s (level (holds rel (order_by f e)) b (holds rel (order_by g h))) (λ t. related_by rel (signs_of s (gap f g ∷ gap e h ∷ []) t)) two_low two_high (λ t x y. two_related t ∙ inside t x y);
    inside = tt;
    zero = tt;
    changes = tt;
  }

  -- a comparison that does not tell apart
  pub two_alike : holds rel Less ≡ holds rel Equal → IsTurning s (gap f g ∷ gap e h ∷ []) rel (level (holds rel (order_by f e)) (holds rel Equal) (holds rel (order_by g h)))
  two_alike k = two_level (holds rel Equal) (λ t x y. by (are_nil_at s (gap f g) (gap e h) t))
    where
      by : (c : Bool) → holds rel (cond c Equal Less) ≡ holds rel Equal
      by true = refl
      by false = k

  pub two_never : IsMeeting s (gap f g) (gap e h) Never → IsTurning s (gap f g ∷ gap e h ∷ []) rel (level (holds rel (order_by f e)) (holds rel Less) (holds rel (order_by g h)))
  two_never m = two_level (holds rel Less) (λ t x y. ap (λ c. holds rel (cond c Equal Less)) (m t x y))

  pub two_always : IsMeeting s (gap f g) (gap e h) Always → IsTurning s (gap f g ∷ gap e h ∷ []) rel (level (holds rel (order_by f e)) (holds rel Equal) (holds rel (order_by g h)))
  two_always m = two_level (holds rel Equal) (λ t x y. ap (λ c. holds rel (cond c Equal Less)) (m t x y))

  meeting_at : (r t : Ratio) → holds rel (cond (same t r) Equal Less) ≡ cond (before t r) (holds rel Less) (cond (before r t) (holds rel Less) (holds rel Equal))
  meeting_at r t = by (before t r) refl (before r t) refl
    where
      by : (a : Bool) → before t r ≡ a → (b : Bool) → before r t ≡ b → holds rel (cond (same t r) Equal Less) ≡ cond a (holds rel Less) (cond b (holds rel Less) (holds rel Equal))
      by true ea b eb = ap (λ c. holds rel (cond c Equal Less)) (before-differ t r ea)
      by false ea true eb = ap (λ c. holds rel (cond c Equal Less)) (before-differ-back r t eb)
      by false ea false eb = ap (λ c. holds rel (cond c Equal Less)) ((same_exact t r).1 (before-neither t r ea eb))

  pub two_once : (r : Ratio) → IsMeeting s (gap f g) (gap e h) (Once r) → (holds rel Less ≡ holds rel Equal → ⊥)
      → IsTurning s (gap f g ∷ gap e h ∷ []) rel (record { at_lower = holds rel (order_by f e); first = holds rel Less; turn = Some (record { at = r; there = holds rel Equal; after = holds rel Less }); at_upper = holds rel (order_by g h) })
  two_once r m n =
      let w : Turning = record { at_lower = holds rel (order_by f e); first = holds rel Less; turn = Some (record { at = r; there = holds rel Equal; after = holds rel Less }); at_upper = holds rel (order_by g h) } in
      let z = and_parts (same (line_at f g s.lower s.upper r) nil) (same (line_at e h s.lower s.upper r) nil) (m.2 r m.0 m.1 ∙ (same_exact r r).1 refl) in
      record {
        each = each_by s w (λ t. related_by rel (signs_of s (gap f g ∷ gap e h ∷ []) t)) two_low two_high (λ t x y. two_related t ∙ ap (λ c. holds rel (cond c Equal Less)) (m.2 t x y) ∙ meeting_at r t);
        inside = (m.0, m.1);
        zero = ((same_exact (line_at f g s.lower s.upper r) nil).0 z.0, ((same_exact (line_at e h s.lower s.upper r) nil).0 z.1, tt));
        changes = λ a b. n a;
      }
