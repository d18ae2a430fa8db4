-- Consequences of the laws of a course.
use Rattle.std.{specs.Prelude.{◌≡◌, Bool, true, false, refl, List}, proofs.Common.{arith, ap, sym, ◌∙◌, subst}}
use Rattle.mob_ratio.{specs.Ratio.{Ratio}, specs.Order.{before, up_to}, proofs.Order.{before-neither, up_to-before, up_to-equal}}
use Rattle.mob_slice.specs.Course.{IsCourse, IsWhole}

module _ {C B : Type 0} {steady copies : Bool} {value : C → Ratio → Ratio → Ratio → B} {start end : C → B} {can_make : B → B → Type 0} {make : B → B → C} {continues : C → C → Ratio → Ratio → Ratio → Bool} {parts : C → Ratio → Ratio → Ratio → List Ratio} (laws : IsCourse steady copies value start end can_make make continues parts) where
  -- two courses with the same values at two instants have the same values everywhere
  pub agree : (c d : C) (l u l' u' s t : Ratio) → before l u ≡ true → before l' u' ≡ true → before s t ≡ true → value c l u s ≡ value d l' u' s → value c l u t ≡ value d l' u' t → (r : Ratio) → value c l u r ≡ value d l' u' r
  agree c d l u l' u' s t h k j e f r =
      let p = laws.part c l u s t h j in
      let q = laws.part d l' u' s t k j in
      sym (p.same r) ∙ ap (λ x. value (make x (value c l u t)) s t r) e ∙ ap (λ x. value (make (value d l' u' s) x) s t r) f ∙ q.same r

  -- a course with the values of c at the two ends of c's span has the values of c
  pub extends : (w c : C) (low high l u : Ratio) → before low high ≡ true → before l u ≡ true → value w low high l ≡ start c → value w low high u ≡ end c → (t : Ratio) → value w low high t ≡ value c l u t
  extends w c low high l u h k e f t = agree w c low high l u l u h k k (e ∙ sym (laws.at_lower c l u)) (f ∙ sym (laws.at_upper c l u k)) t

  -- the values of the whole at its three ends
  whole_lower : (c d : C) (l m u : Ratio) → IsWhole value start end can_make make c d l m u → value (make (start c) (end d)) l u l ≡ start c
  whole_lower c d l m u w = laws.at_lower (make (start c) (end d)) l u ∙ laws.start_made (start c) (end d) w.made

  whole_upper : (c d : C) (l m u : Ratio) → before l u ≡ true → IsWhole value start end can_make make c d l m u → value (make (start c) (end d)) l u u ≡ end d
  whole_upper c d l m u h w = laws.at_upper (make (start c) (end d)) l u h ∙ laws.end_made (start c) (end d) w.made

  left_by : (c d : C) (l m u t : Ratio) → IsWhole value start end can_make make c d l m u → before l u ≡ true → up_to l m ≡ true → up_to l t ≡ true → up_to t m ≡ true → (b : Bool) → before l m ≡ b → value (make (start c) (end d)) l u t ≡ value c l m t
  left_by c d l m u t w h p q r true k = extends (make (start c) (end d)) c l u l m h k (whole_lower c d l m u w) w.straight t
  left_by c d l m u t w h p q r false k =
      let e : l ≡ m = up_to-equal l m p k in
      let f : l ≡ t = before-neither l t (grind (arith, r, e)) (grind (arith, q)) in
      subst (λ s. value (make (start c) (end d)) l u s ≡ value c l m s) f (whole_lower c d l m u w ∙ sym (laws.at_lower c l m))

  pub left_part : (c d : C) (l m u t : Ratio) → IsWhole value start end can_make make c d l m u → before l u ≡ true → up_to l m ≡ true → up_to l t ≡ true → up_to t m ≡ true → value (make (start c) (end d)) l u t ≡ value c l m t
  left_part c d l m u t w h p q r = left_by c d l m u t w h p q r (before l m) refl

  right_by : (c d : C) (l m u t : Ratio) → IsWhole value start end can_make make c d l m u → before l u ≡ true → up_to m u ≡ true → up_to m t ≡ true → up_to t u ≡ true → (b : Bool) → before m u ≡ b → value (make (start c) (end d)) l u t ≡ value d m u t
  right_by c d l m u t w h p q r true k = extends (make (start c) (end d)) d l u m u h k (w.straight ∙ w.met) (whole_upper c d l m u h w) t
  right_by c d l m u t w h p q r false k =
      let e : m ≡ u = up_to-equal m u p k in
      let f : m ≡ t = before-neither m t (grind (arith, r, e)) (grind (arith, q)) in
      subst (λ s. value (make (start c) (end d)) l u s ≡ value d m u s) f (w.straight ∙ w.met ∙ sym (laws.at_lower d m u))

  pub right_part : (c d : C) (l m u t : Ratio) → IsWhole value start end can_make make c d l m u → before l u ≡ true → up_to m u ≡ true → up_to m t ≡ true → up_to t u ≡ true → value (make (start c) (end d)) l u t ≡ value d m u t
  right_part c d l m u t w h p q r = right_by c d l m u t w h p q r (before m u) refl

  -- a course that continues as all of the next one continues as its first part
  front_by : (c d e : C) (l m n u : Ratio) → IsWhole value start end can_make make d e m n u → IsWhole value start end can_make make c (make (start d) (end e)) l m u → up_to l m ≡ true → before m u ≡ true → before l n ≡ true → IsWhole value start end can_make make c d l m n
  front_by c d e l m n u w v h k j =
      let long = up_to-before l m u h k in
      let D = make (start d) (end e) in
      let V = make (start c) (end D) in
      -- V has the values of D
      let same : (t : Ratio) → value V l u t ≡ value D m u t = extends V D l u m u long k (v.straight ∙ v.met) (whole_upper c D l m u long v) in
      let at_n : value V l u n ≡ end d = same n ∙ w.straight in
      let at_l : value V l u l ≡ start c = whole_lower c D l m u v in
      let p = laws.part V l u l n long j in
      let made : can_make (start c) (end d) = subst (λ x. can_make x (end d)) at_l (subst (λ y. can_make (value V l u l) y) at_n p.made) in
      let met : end c ≡ start d = v.met ∙ laws.start_made (start d) (end e) w.made in
      record {
        made = made;
        met = met;
        straight = ap (λ x. value (make x (end d)) l n m) (sym at_l) ∙ ap (λ y. value (make (value V l u l) y) l n m) (sym at_n) ∙ p.same m ∙ v.straight;
      }

  pub front_part : (c d e : C) (l m n u : Ratio) → continues d e m n u ≡ true → continues c (make (start d) (end e)) l m u ≡ true → up_to l m ≡ true → before m u ≡ true → before l n ≡ true → continues c d l m n ≡ true
  front_part c d e l m n u f g h k j = (laws.whole c d l m n).1 (front_by c d e l m n u ((laws.whole d e m n u).0 f) ((laws.whole c (make (start d) (end e)) l m u).0 g) h k j)
