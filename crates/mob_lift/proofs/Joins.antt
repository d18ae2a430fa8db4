use Rattle.std.{specs.Prelude.{◌≡◌, ◌≢◌, Bool, true, false, cond, ◌||◌, ◌&&◌, Some, None, List, [], ◌∷◌, refl}, proofs.lemmas.Bool.{and_from, false_from_ne_true}}
use Rattle.std.proofs.Common.{arith, ap, sym, ◌∙◌, subst, true≢false}
use Rattle.mob_ratio.{specs.Ratio.{Ratio}, specs.Order.{before, up_to}, proofs.Order.{before-neither}}
use Rattle.mob_span.{specs.Span.{SpanOf, has, has_instant}, specs.Neighbours.{Meets, joined, without_upper, with_lower}}
use Rattle.mob_span.proofs.SpanLemmas.{some_upto, has_upto_upper, has_upto_lower, joined_long, joined_some, joined_has, moved_has, moved_at, moved_some}
use Rattle.mob_slice.{specs.Course.{IsCourse, IsWhole}, specs.Slices.{value_at, IsClearOf, IsSound}, specs.declared.slice.Slice.{Slice}}
use Rattle.mob_lift.{specs.Joined.{IsJoin}, proofs.CourseWholes.{left_part, right_part, front_part}}

-- a value defined if either test holds, equal to the value of the test that holds
pick : {B : Type 0} (b p q : Bool) (x y z : B) → b ≡ (p || q) → (p ≡ true → x ≡ y) → (q ≡ true → x ≡ z) → cond b (Some x) None ≡ cond p (Some y) (cond q (Some z) None)
pick b true q x y z e f g = rw e (ap Some (f refl))
pick b false true x y z e f g = rw e (ap Some (g refl))
pick b false false x y z e f g = rw e refl

-- if one of two spans that meet is a single instant, the other is not
other_long : (s r : SpanOf) → Meets s r → has_instant s ≡ true → has_instant r ≡ true → (before s.lower s.upper || before r.lower r.upper) ≡ true
other_long s r m h k = grind (arith, h, k, m.in_one)

-- if the second of two is long, the first is not
short_first : (a b c : Bool) → c ≡ true → (a && c) ≡ false → (a && b) ≡ false
short_first a b c h k = grind (arith, h, k)

module _ {C B : Type 0} {steady copies : Bool} {value : C → Ratio → Ratio → Ratio → B} {start end : C → B} {can_make : B → B → Type 0} {make : B → B → C} {continues : C → C → Ratio → Ratio → Ratio → Bool} {parts : C → Ratio → Ratio → Ratio → List Ratio} (laws : IsCourse steady copies value start end can_make make continues parts) where
  pub join_one : (s r : Slice C) → IsSound start end s → IsSound start end r → Meets s.span r.span → continues s.course r.course s.span.lower s.span.upper r.span.upper ≡ true → IsJoin value start end continues s r [] (record { span = joined s.span r.span; course = make (start s.course) (end r.course) })
  join_one s r ss sr m h =
      let w = (laws.whole s.course r.course s.span.lower s.span.upper r.span.upper).0 h in
      let long : before s.span.lower r.span.upper ≡ true = joined_long s.span r.span m ss.some sr.some in
      let low : up_to s.span.lower s.span.upper ≡ true = some_upto s.span ss.some in
      let high : up_to s.span.upper r.span.upper ≡ true = rw m.at_one (some_upto r.span sr.some) in
      record {
        keeps = λ t. pick _ (has s.span t) (has r.span t) _ _ _ (joined_has s.span r.span t m ss.some sr.some)
            (λ k. left_part laws s.course r.course s.span.lower s.span.upper r.span.upper t w long low (has_upto_lower s.span t k) (has_upto_upper s.span t k))
            (λ k. subst (λ x. value (make (start s.course) (end r.course)) s.span.lower r.span.upper t ≡ value r.course x r.span.upper t) m.at_one (right_part laws s.course r.course s.span.lower s.span.upper r.span.upper t w long high (rw m.at_one (has_upto_lower r.span t k)) (has_upto_upper r.span t k)));
        chained = (record { some = joined_some s.span r.span m ss.some sr.some; level = λ e. absurd (true≢false (sym (joined_long s.span r.span m ss.some sr.some) ∙ e)) }, tt, tt);
        front = λ p sp n. record { in_order = n.in_order; apart = λ pm. false_from_ne_true _ (λ e. let back : Meets p.span s.span = record { at_one = pm.at_one; in_one = pm.in_one } in true≢false (sym (front_part laws p.course s.course r.course p.span.lower p.span.upper s.span.upper r.span.upper (rw pm.at_one h) e (some_upto p.span sp.some) (rw pm.at_one long) (joined_long p.span s.span back sp.some ss.some)) ∙ n.apart back)); given_late = λ pm inc long e. let back : Meets p.span s.span = record { at_one = pm.at_one; in_one = pm.in_one } in n.given_late back inc long (e ∙ laws.start_made (start s.course) (end r.course) w.made); own_value = λ pm short e. let back : Meets p.span s.span = record { at_one = pm.at_one; in_one = pm.in_one } in n.own_value back (short_first _ (before s.span.lower s.span.upper) _ (joined_long s.span r.span m ss.some sr.some) short) (e ∙ laws.start_made (start s.course) (end r.course) w.made) };
        back = λ q k. k;
      }

  -- the value at the shared end is the same in both
  kept_by : (s r : Slice C) → IsSound start end s → IsSound start end r → Meets s.span r.span → s.span.upper_inc ≡ true → before s.span.lower s.span.upper ≡ true → end s.course ≡ start r.course → (t : Ratio) (b : Bool) → (before t s.span.upper || before s.span.upper t) ≡ b → value_at value (record { span = without_upper s.span; course = s.course } ∷ record { span = with_lower r.span; course = r.course } ∷ []) t ≡ value_at value (s ∷ r ∷ []) t
  kept_by s r ss sr m inc long e t true h = let f = moved_has s.span r.span t m long h in rw (f.0, f.1) refl
  kept_by s r ss sr m inc long e t false h =
      let f = moved_at s.span r.span t m sr.some inc long h in
      let at_end : value s.course s.span.lower s.span.upper t ≡ end s.course = rw f.3 (laws.at_upper s.course s.span.lower s.span.upper long) in
      let at_start : value r.course r.span.lower r.span.upper t ≡ start r.course = rw f.4 (laws.at_lower r.course r.span.lower r.span.upper) in
      rw (f.0, f.1, f.2) (ap Some (at_start ∙ sym e ∙ sym at_end))

  pub join_two : (s r : Slice C) → IsSound start end s → IsSound start end r → Meets s.span r.span → continues s.course r.course s.span.lower s.span.upper r.span.upper ≡ false → s.span.upper_inc ≡ true → before s.span.lower s.span.upper ≡ true → end s.course ≡ start r.course → IsJoin value start end continues s r (record { span = without_upper s.span; course = s.course } ∷ []) (record { span = with_lower r.span; course = r.course })
  join_two s r ss sr m h inc long e =
      record {
        keeps = λ t. kept_by s r ss sr m inc long e t _ refl;
        chained = let f = moved_some s.span r.span m sr.some inc long in (record { some = f.0; level = ss.level }, record { in_order = f.3; apart = λ k. h; given_late = λ k i. absurd (true≢false (sym i)); own_value = λ k short. absurd (true≢false (sym (and_from _ _ long f.1) ∙ short)) }, (record { some = f.2; level = sr.level }, tt, tt));
        front = λ p sp n. record { in_order = n.in_order; apart = λ k. n.apart (record { at_one = k.at_one; in_one = k.in_one }); given_late = λ k. n.given_late (record { at_one = k.at_one; in_one = k.in_one }); own_value = λ k. n.own_value (record { at_one = k.at_one; in_one = k.in_one }) };
        back = λ q k. k;
      }

  -- one of two that meet is a single instant with the limit of the other: they are one course
  one_by : (s r : Slice C) → IsSound start end s → IsSound start end r → Meets s.span r.span → end s.course ≡ start r.course → (p q : Bool) → before s.span.lower s.span.upper ≡ p → before r.span.lower r.span.upper ≡ q → (p && q) ≡ false → IsWhole value start end can_make make s.course r.course s.span.lower s.span.upper r.span.upper
  one_by s r ss sr m e true true f g h = absurd (true≢false h)
  one_by s r ss sr m e false false f g h = absurd (true≢false (sym (other_long s.span r.span m ss.some sr.some) ∙ rw (f, g) refl))
  one_by s r ss sr m e false true f g h =
      let l = r.span.lower in
      let u = r.span.upper in
      let c = r.course in
      let at : s.span.lower ≡ s.span.upper = before-neither s.span.lower s.span.upper f (grind (arith, some_upto s.span ss.some)) in
      let level : can_make (start c) (end c) = subst (λ x. can_make x (end c)) (laws.at_lower c l u) (subst (λ x. can_make (value c l u l) x) (laws.at_upper c l u g) (laws.part c l u l u g g).made) in
      let made : can_make (start s.course) (end c) = subst (λ x. can_make x (end c)) (sym (ss.level f ∙ e)) level in
      record {
        made = made;
        met = e;
        straight = subst (λ x. value (make (start s.course) (end c)) s.span.lower u x ≡ end s.course) at (laws.at_lower (make (start s.course) (end c)) s.span.lower u ∙ laws.start_made (start s.course) (end c) made ∙ ss.level f);
      }
  one_by s r ss sr m e true false f g h =
      let l = s.span.lower in
      let u = s.span.upper in
      let c = s.course in
      let at : r.span.upper ≡ s.span.upper = sym (before-neither r.span.lower r.span.upper g (grind (arith, some_upto r.span sr.some))) ∙ sym m.at_one in
      let level : can_make (start c) (end c) = subst (λ x. can_make x (end c)) (laws.at_lower c l u) (subst (λ x. can_make (value c l u l) x) (laws.at_upper c l u f) (laws.part c l u l u f f).made) in
      let same : end c ≡ end r.course = e ∙ sr.level g in
      let made : can_make (start c) (end r.course) = subst (λ x. can_make (start c) x) same level in
      record {
        made = made;
        met = e;
        straight = subst (λ x. value (make (start c) (end r.course)) l x u ≡ end c) (sym at) (laws.at_upper (make (start c) (end r.course)) l u f ∙ laws.end_made (start c) (end r.course) made ∙ sym same);
      }

  pub own_unless : (s r : Slice C) → IsSound start end s → IsSound start end r → Meets s.span r.span → continues s.course r.course s.span.lower s.span.upper r.span.upper ≡ false → (before s.span.lower s.span.upper && before r.span.lower r.span.upper) ≡ false → end s.course ≢ start r.course
  own_unless s r ss sr m h short e = true≢false (sym ((laws.whole s.course r.course s.span.lower s.span.upper r.span.upper).1 (one_by s r ss sr m e _ _ refl refl short)) ∙ h)

  -- two slices that are already normal
  pub join_kept : (s r : Slice C) → IsSound start end s → IsSound start end r → IsClearOf s r → Meets s.span r.span → continues s.course r.course s.span.lower s.span.upper r.span.upper ≡ false → (s.span.upper_inc ≡ true → before s.span.lower s.span.upper ≡ true → end s.course ≢ start r.course) → IsJoin value start end continues s r (s ∷ []) r
  join_kept s r ss sr clear m h late = record {
    keeps = λ t. refl;
    chained = (ss, record { in_order = clear; apart = λ k. h; given_late = λ k. late; own_value = λ k short. own_unless s r ss sr m h short }, (sr, tt, tt));
    front = λ p sp n. n;
    back = λ q k. k;
  }
