-- One course with two parts, and two courses that are equal.
use Rattle.std.{specs.Prelude.{◌≡◌, Bool, true, false, List, refl}, proofs.Common.{arith, ap, sym, ◌∙◌, subst}}
use Rattle.mob_ratio.{specs.Ratio.{Ratio}, specs.Order.{before, up_to}, proofs.Order.{before-back, before-trans, before-neither, up_to-self, up_to-equal}}
use Rattle.mob_slice.{specs.Course.{IsCourse, IsWhole}, specs.Wholes.{HasBothParts, AreNeighbours, ContinuesAsOne, TwoInstantsFix}}

-- an instant of such a span
only_instant : (s t x : Ratio) → up_to s x ≡ true → up_to x t ≡ true → before s t ≡ false → s ≡ x
only_instant s t x h k n = before-neither s x (grind (arith, h, k, n, before-back x t, before-trans s x t, before-neither x t)) (grind (arith, h))

module _ {C B : Type 0} {steady copies : Bool} {value : C → Ratio → Ratio → Ratio → B} {start end : C → B} {can_make : B → B → Type 0} {make : B → B → C} {continues : C → C → Ratio → Ratio → Ratio → Bool} {parts : C → Ratio → Ratio → Ratio → List Ratio} (laws : IsCourse steady copies value start end can_make make continues parts) where
  pub two_instants_fix : TwoInstantsFix value
  two_instants_fix c d l u s t h k p q x =
      sym ((laws.part c l u s t h k).same x)
      ∙ ap (λ y. value (make y (value c l u t)) s t x) p
      ∙ ap (λ y. value (make (value d l u s) y) s t x) q
      ∙ (laws.part d l u s t h k).same x

  -- a course that has the limits of c at two instants has its values
  part_is : (w c : C) (l u a b : Ratio) → before l u ≡ true → before a b ≡ true → value w l u a ≡ start c → value w l u b ≡ end c → (t : Ratio) → value w l u t ≡ value c a b t
  part_is w c l u a b h k p q t =
      let m = laws.part w l u a b h k in
      let can : can_make (start c) (end c) = subst (λ y. can_make (start c) y) q (subst (λ x. can_make x (value w l u b)) p m.made) in
      let same : make (value w l u a) (value w l u b) ≡ c = ap (λ x. make x (value w l u b)) p ∙ ap (λ y. make (start c) y) q ∙ laws.by_ends (make (start c) (end c)) c (laws.start_made (start c) (end c) can) (laws.end_made (start c) (end c) can) in
      sym (m.same t) ∙ ap (λ z. value z a b t) same

  -- the value at the upper end, if a course on one instant has equal limits
  at_end : (c : C) (l u : Ratio) → up_to l u ≡ true → (before l u ≡ false → start c ≡ end c) → value c l u u ≡ end c
  at_end c l u h level = by (before l u) refl
    where
      by : (b : Bool) → before l u ≡ b → value c l u u ≡ end c
      by true e = laws.at_upper c l u e
      by false e = subst (λ t. value c l u t ≡ end c) (up_to-equal l u h e) (laws.at_lower c l u ∙ level e)

  -- a course that has the limits of c at the ends of a span, even of one instant, has its values
  -- there
  has_part : (w c : C) (l u a b : Ratio) → before l u ≡ true → value w l u a ≡ start c → value w l u b ≡ end c → (t : Ratio) → up_to a t ≡ true → up_to t b ≡ true → value w l u t ≡ value c a b t
  has_part w c l u a b h p q t i j = by (before a b) refl
    where
      by : (x : Bool) → before a b ≡ x → value w l u t ≡ value c a b t
      by true e = part_is w c l u a b h e p q t
      by false e = subst (λ z. value w l u z ≡ value c a b z) (only_instant a b t i j e) (p ∙ sym (laws.at_lower c a b))

  whole_has : (c d : C) (l m u : Ratio) → AreNeighbours start end c d l m u → IsWhole value start end can_make make c d l m u → HasBothParts value (make (start c) (end d)) c d l m u
  whole_has c d l m u n w =
      let o = make (start c) (end d) in
      let low : value o l u l ≡ start c = laws.at_lower o l u ∙ laws.start_made (start c) (end d) w.made in
      let high : value o l u u ≡ end d = laws.at_upper o l u n.long ∙ laws.end_made (start c) (end d) w.made in
      record {
        first = λ t i j. has_part o c l u l m n.long low w.straight t i j;
        second = λ t i j. has_part o d l u m u n.long (w.straight ∙ w.met) high t i j;
      }

  has_whole : (w c d : C) (l m u : Ratio) → AreNeighbours start end c d l m u → HasBothParts value w c d l m u → IsWhole value start end can_make make c d l m u
  has_whole w c d l m u n b =
      let p = laws.part w l u l u n.long n.long in
      let low : value w l u l ≡ start c = b.first l (up_to-self l) n.in_order.0 ∙ laws.at_lower c l m in
      let left : value w l u m ≡ end c = b.first m n.in_order.0 (up_to-self m) ∙ at_end c l m n.in_order.0 n.first_level in
      let right : value w l u m ≡ start d = b.second m (up_to-self m) n.in_order.1 ∙ laws.at_lower d m u in
      let high : value w l u u ≡ end d = b.second u n.in_order.1 (up_to-self u) ∙ at_end d m u n.in_order.1 n.second_level in
      record {
        made = subst (λ y. can_make (start c) y) high (subst (λ x. can_make x (value w l u u)) low p.made);
        met = sym left ∙ right;
        straight = sym (ap (λ x. value (make x (value w l u u)) l u m) low ∙ ap (λ y. value (make (start c) y) l u m) high) ∙ p.same m ∙ left;
      }

  pub continues_as_one : ContinuesAsOne value start end continues
  continues_as_one c d l m u n = (
    λ e. (make (start c) (end d), whole_has c d l m u n ((laws.whole c d l m u).0 e)),
    λ o. (laws.whole c d l m u).1 (has_whole o.0 c d l m u n o.1),
  )
