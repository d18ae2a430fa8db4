-- A normal list of slices is the only one with its value at each instant.
use Rattle.std.{specs.Prelude.{◌≡◌, Bool, true, false, Some, None, List, [], ◌∷◌, refl}, proofs.Common.{ap, sym, ◌∙◌, subst, true≢false}, proofs.lemmas.Bool.{false_from_ne_true}}
use Rattle.std.proofs.lemmas.Option.{same_Some}
use Rattle.mob_slice.{specs.CourseOf.{CourseOf}, specs.Course.{IsCourse}, specs.Slices.{value_at, AreNormal}, specs.declared.slice.Slice.{Slice}}
use Rattle.mob_span.{specs.Span.{SpanOf, has, has_instant}, specs.Neighbours.{Meets}, specs.Meet.{starts_before, ends_before}, proofs.Insides.{inner_has}, proofs.SpanLemmas.{some_instant, short_has}}
use Rattle.mob_span.proofs.RemainderEnds.{ends_upto}
use Rattle.mob_ratio.{specs.Ratio.{Ratio}, specs.Order.{before, up_to}, proofs.Order.{before-trans, up_to-self, before-up_to}}
use Rattle.mob_lift.proofs.Glued.{glue, continued_if}
use Rattle.mob_lift.proofs.Instants.{has_from_to, two_between, stretch_in, OneShared, one_shared, remains_shared, gap_shared, earlier, later_in, later_alone, second_long, lower_from_to, upper_from_to}
use Rattle.mob_lift.proofs.Instants.{shared_some}
use Rattle.mob_lift.proofs.Regions.{gap, remains, head_start, is_left, gap_or_meets, starts_some, left_has, left_clear, head_left, remains_some, remains_after, head_within, short_left, StartAlike}
use Rattle.mob_lift.proofs.Regions.{start_alike, shorter_within, remains_within, gap_after, gap_left, gap_within, remains_left, next_within, clear_has, same_span, in_left}

clash : {B : Type 0} (x : B) → Some x ≡ None → ⊥
clash x e = cc

slice_same : {C : Type 0} (s r : SpanOf) (c d : C) → s ≡ r → c ≡ d → (let a : Slice C = record { span = s; course = c } in let b : Slice C = record { span = r; course = d } in a ≡ b)
slice_same s r c d e f = rw (e, f) refl

joined_lists : {A : Type 0} (a b : A) (v w : List A) → a ≡ b → v ≡ w → (a ∷ v) ≡ (b ∷ w)
joined_lists a b v w e f = rw (e, f) refl

module _ {C B : Type 0} {steady copies : Bool} {value : C → Ratio → Ratio → Ratio → B} {start end : C → B} {can_make : B → B → Type 0} {make : B → B → C} {continues : C → C → Ratio → Ratio → Ratio → Bool} {parts : C → Ratio → Ratio → Ratio → List Ratio} (laws : IsCourse steady copies value start end can_make make continues parts) where
  abbrev val : Slice C → Ratio → B
  val a t = value a.course a.span.lower a.span.upper t

  at_in : (a : Slice C) (rest : List (Slice C)) (t : Ratio) → has a.span t ≡ true → value_at value (a ∷ rest) t ≡ Some (val a t)
  at_in a rest t h = rw h refl

  at_out : (a : Slice C) (rest : List (Slice C)) (t : Ratio) → has a.span t ≡ false → value_at value (a ∷ rest) t ≡ value_at value rest t
  at_out a rest t h = rw h refl

  none_left : (t : Ratio) (b : Slice C) (rest : List (Slice C)) → AreNormal start end continues (b ∷ rest) → is_left t b.span ≡ true → value_at value (b ∷ rest) t ≡ None
  none_left t b [] n h = at_out b [] t (left_has t b.span h)
  none_left t b (c ∷ rest) n h = at_out b (c ∷ rest) t (left_has t b.span h) ∙ none_left t c rest n.2 (left_clear t b.span c.span n.0.some h n.1.in_order)

  no_start_by : (a b : Slice C) (v w : List (Slice C)) → AreNormal start end continues (a ∷ v) → AreNormal start end continues (b ∷ w) → ((t : Ratio) → value_at value (a ∷ v) t ≡ value_at value (b ∷ w) t) → starts_before a.span b.span ≡ true → (e : Bool) → ends_before a.span (head_start a.span b.span) ≡ e → ⊥
  no_start_by a b v w n m f h true e =
      let t = some_instant a.span n.0.some in
      clash (val a t.0) (sym (at_in a v t.0 t.1) ∙ f t.0 ∙ none_left t.0 b w m (short_left a.span b.span t.0 e t.1))
  no_start_by a b v w n m f h false e =
      let t = some_instant (head_start a.span b.span) (starts_some a.span b.span n.0.some h) in
      clash (val a t.0) (sym (at_in a v t.0 (head_within a.span b.span t.0 e t.1)) ∙ f t.0 ∙ none_left t.0 b w m (head_left a.span b.span t.0 t.1))

  no_start : (a b : Slice C) (v w : List (Slice C)) → AreNormal start end continues (a ∷ v) → AreNormal start end continues (b ∷ w) → ((t : Ratio) → value_at value (a ∷ v) t ≡ value_at value (b ∷ w) t) → starts_before a.span b.span ≡ false
  no_start a b v w n m f = false_from_ne_true _ (λ h. no_start_by a b v w n m f h _ refl)

  -- at an instant that two slices share with a third, their values are the same
  in_both : (a c b : Slice C) (v w : List (Slice C)) (t : Ratio) → ((t : Ratio) → value_at value (a ∷ c ∷ v) t ≡ value_at value (b ∷ w) t) → has a.span t ≡ false → has c.span t ≡ true → has b.span t ≡ true → val c t ≡ val b t
  in_both a c b v w t f ha hc hb = same_Some _ _ (sym (at_out a (c ∷ v) t ha ∙ at_in c v t hc) ∙ f t ∙ at_in b w t hb)

  in_first : (a b : Slice C) (v w : List (Slice C)) (t : Ratio) → ((t : Ratio) → value_at value (a ∷ v) t ≡ value_at value (b ∷ w) t) → has a.span t ≡ true → has b.span t ≡ true → val a t ≡ val b t
  in_first a b v w t f ha hb = same_Some _ _ (sym (at_in a v t ha) ∙ f t ∙ at_in b w t hb)

  -- one course has both a and c, which contradicts a normal list
  one_course : (a c : Slice C) (v : List (Slice C)) (e : C) (low high : Ratio) → AreNormal start end continues (a ∷ c ∷ v) → Meets a.span c.span → up_to low a.span.lower ≡ true → up_to c.span.upper high ≡ true → ((t : Ratio) → has a.span t ≡ true → val a t ≡ value e low high t) → ((t : Ratio) → has c.span t ≡ true → val c t ≡ value e low high t) → ⊥
  one_course a c v e low high n m l h f g = true≢false (sym (continued_if laws a c e low high m n.0 n.2.0 l h f g) ∙ n.1.apart m)

  -- c ends in b
  in_one : (a c b : Slice C) (v w : List (Slice C)) → AreNormal start end continues (a ∷ c ∷ v) → ((t : Ratio) → value_at value (a ∷ c ∷ v) t ≡ value_at value (b ∷ w) t) → StartAlike a.span b.span → ends_before a.span b.span ≡ true → Meets a.span c.span → ends_before b.span c.span ≡ false → ⊥
  in_one a c b v w n f s h m k =
      one_course a c v b.course b.span.lower b.span.upper n m (rw s.lower (up_to-self b.span.lower)) (ends_upto b.span c.span k)
      (λ t i. in_first a b (c ∷ v) w t f i (shorter_within a.span b.span t s h i))
      (λ t i. in_both a c b v w t f (clear_has a.span c.span t n.1.in_order i) i (next_within a.span c.span b.span t s n.0.some m k i))

  -- b ends in c, later than a
  over : (a c b : Slice C) (v w : List (Slice C)) → AreNormal start end continues (a ∷ c ∷ v) → ((t : Ratio) → value_at value (a ∷ c ∷ v) t ≡ value_at value (b ∷ w) t) → StartAlike a.span b.span → ends_before a.span b.span ≡ true → Meets a.span c.span → ends_before b.span c.span ≡ true → before a.span.upper b.span.upper ≡ true → ⊥
  over a c b v w n f s h m k j =
      let p = two_between a.span.upper b.span.upper j in
      let lt : before p.first b.span.upper ≡ true = before-trans p.first p.second b.span.upper p.in_turn p.before_u in
      let gt : before a.span.upper p.second ≡ true = before-trans a.span.upper p.first p.second p.after_l p.in_turn in
      let x = stretch_in a.span b.span c.span p.first s n.0.some m k p.after_l lt in
      let y = stretch_in a.span b.span c.span p.second s n.0.some m k gt p.before_u in
      let g = glue laws b.course c.course b.span.lower b.span.upper c.span.lower c.span.upper p.first p.second (has_from_to b.span p.first x.0) (has_from_to b.span p.second y.0) (has_from_to c.span p.first x.1) (has_from_to c.span p.second y.1) p.in_turn (sym (in_both a c b v w p.first f x.2 x.1 x.0)) (sym (in_both a c b v w p.second f y.2 y.1 y.0)) in
      one_course a c v g.whole g.low g.high n m (subst (λ x. up_to g.low x ≡ true) (sym s.lower) g.starts) g.ends'
      (λ t i. in_first a b (c ∷ v) w t f i (shorter_within a.span b.span t s h i) ∙ sym (g.first t (has_from_to b.span t (shorter_within a.span b.span t s h i))))
      (λ t i. sym (g.second t (has_from_to c.span t i)))

  -- b ends with the one instant that it shares with c
  shared_by : (a c b d : Slice C) (v w : List (Slice C)) → AreNormal start end continues (a ∷ c ∷ v) → AreNormal start end continues (b ∷ d ∷ w) → ((t : Ratio) → value_at value (a ∷ c ∷ v) t ≡ value_at value (b ∷ d ∷ w) t) → Meets a.span c.span → OneShared a.span b.span c.span → (g : Bool) → has_instant (gap b.span d.span) ≡ g → (e : Bool) → ends_before c.span (gap b.span d.span) ≡ e → ⊥
  shared_by a c b d v w n n' f m o true g true e =
      let t = some_instant (remains b.span c.span) (shared_some a.span b.span c.span o m) in
      let hc = remains_shared a.span b.span c.span t.0 o m t.1 in
      clash (val c t.0) (sym (at_out a (c ∷ v) t.0 (clear_has a.span c.span t.0 n.1.in_order hc) ∙ at_in c v t.0 hc) ∙ f t.0 ∙ at_out b (d ∷ w) t.0 (remains_after b.span c.span t.0 t.1) ∙ none_left t.0 d w n'.2 (remains_left b.span d.span c.span t.0 e t.1))
  shared_by a c b d v w n n' f m o true g false e =
      let t = some_instant (gap b.span d.span) g in
      let hc = gap_shared a.span b.span c.span d.span t.0 o m e t.1 in
      clash (val c t.0) (sym (at_out a (c ∷ v) t.0 (clear_has a.span c.span t.0 n.1.in_order hc) ∙ at_in c v t.0 hc) ∙ f t.0 ∙ at_out b (d ∷ w) t.0 (gap_after b.span d.span t.0 t.1) ∙ none_left t.0 d w n'.2 (gap_left b.span d.span t.0 t.1))
  shared_by a c b d v w n n' f m o false g j e =
      let m' = gap_or_meets b.span d.span n'.1.in_order g in
      let d_long = second_long b.span d.span m' o.b_closed n'.2.0.some in
      let at_d : a.span.upper ≡ d.span.lower = sym o.at ∙ m'.at_one in
      let at_c : c.span.lower ≡ d.span.lower = sym m.at_one ∙ at_d in
      let q = earlier a.span.upper c.span.upper d.span.upper (subst (λ x. before x c.span.upper ≡ true) (sym m.at_one) o.c_long) (subst (λ x. before x d.span.upper ≡ true) (sym at_d) d_long) in
      let p = two_between a.span.upper q.at q.later in
      let lt : before p.first q.at ≡ true = before-trans p.first p.second q.at p.in_turn p.before_u in
      let gt : before a.span.upper p.second ≡ true = before-trans a.span.upper p.first p.second p.after_l p.in_turn in
      let x = later_in a.span b.span c.span d.span p.first o m m' p.after_l (before-up_to p.first q.at c.span.upper lt q.first) (before-up_to p.first q.at d.span.upper lt q.second) in
      let y = later_in a.span b.span c.span d.span p.second o m m' gt (before-up_to p.second q.at c.span.upper p.before_u q.first) (before-up_to p.second q.at d.span.upper p.before_u q.second) in
      let same : (t : Ratio) → has a.span t ≡ false → has b.span t ≡ false → has c.span t ≡ true → has d.span t ≡ true → val c t ≡ val d t = λ t ha hb hc hd. same_Some _ _ (sym (at_out a (c ∷ v) t ha ∙ at_in c v t hc) ∙ f t ∙ at_out b (d ∷ w) t hb ∙ at_in d w t hd) in
      let r = glue laws c.course d.course c.span.lower c.span.upper d.span.lower d.span.upper p.first p.second (has_from_to c.span p.first x.0) (has_from_to c.span p.second y.0) (has_from_to d.span p.first x.1) (has_from_to d.span p.second y.1) p.in_turn (same p.first x.2 x.3 x.0 x.1) (same p.second y.2 y.3 y.0 y.1) in
      let start_c : value r.whole r.low r.high c.span.lower ≡ start c.course = r.first c.span.lower (lower_from_to c.span n.2.0.some) ∙ laws.at_lower c.course c.span.lower c.span.upper in
      let start_d : value r.whole r.low r.high d.span.lower ≡ start d.course = r.second d.span.lower (lower_from_to d.span n'.2.0.some) ∙ laws.at_lower d.course d.span.lower d.span.upper in
      let starts : start c.course ≡ start d.course = sym start_c ∙ ap (λ t. value r.whole r.low r.high t) at_c ∙ start_d in
      let b_at : val b a.span.upper ≡ end b.course = ap (λ t. val b t) (sym o.at) ∙ laws.at_upper b.course b.span.lower b.span.upper o.b_long in
      let c_at : val c a.span.upper ≡ start c.course = ap (λ t. val c t) m.at_one ∙ laws.at_lower c.course c.span.lower c.span.upper in
      let met : val c a.span.upper ≡ val b a.span.upper = in_both a c b v (d ∷ w) a.span.upper f o.not_a o.in_c o.in_b in
      n'.1.given_late m' o.b_closed o.b_long (sym b_at ∙ sym met ∙ c_at ∙ starts)

  shared : (a c b : Slice C) (v w : List (Slice C)) → AreNormal start end continues (a ∷ c ∷ v) → AreNormal start end continues (b ∷ w) → ((t : Ratio) → value_at value (a ∷ c ∷ v) t ≡ value_at value (b ∷ w) t) → Meets a.span c.span → OneShared a.span b.span c.span → ⊥
  shared a c b v [] n n' f m o =
      let p = two_between a.span.upper c.span.upper (subst (λ x. before x c.span.upper ≡ true) (sym m.at_one) o.c_long) in
      let x = later_alone a.span b.span c.span p.second o m (before-trans a.span.upper p.first p.second p.after_l p.in_turn) p.before_u in
      clash (val c p.second) (sym (at_out a (c ∷ v) p.second x.1 ∙ at_in c v p.second x.0) ∙ f p.second ∙ at_out b [] p.second x.2)
  shared a c b v (d ∷ w) n n' f m o = shared_by a c b d v w n n' f m o _ refl _ refl

  meets_by : (a c b : Slice C) (v w : List (Slice C)) → AreNormal start end continues (a ∷ c ∷ v) → AreNormal start end continues (b ∷ w) → ((t : Ratio) → value_at value (a ∷ c ∷ v) t ≡ value_at value (b ∷ w) t) → StartAlike a.span b.span → ends_before a.span b.span ≡ true → Meets a.span c.span → (k : Bool) → ends_before b.span c.span ≡ k → (j : Bool) → before a.span.upper b.span.upper ≡ j → ⊥
  meets_by a c b v w n n' f s h m false k j i = in_one a c b v w n f s h m k
  meets_by a c b v w n n' f s h m true k true i = over a c b v w n f s h m k i
  meets_by a c b v w n n' f s h m true k false i = shared a c b v w n n' f m (one_shared a.span b.span c.span s n.0.some m h k i)

  no_end_by : (a c b : Slice C) (v w : List (Slice C)) → AreNormal start end continues (a ∷ c ∷ v) → AreNormal start end continues (b ∷ w) → ((t : Ratio) → value_at value (a ∷ c ∷ v) t ≡ value_at value (b ∷ w) t) → StartAlike a.span b.span → ends_before a.span b.span ≡ true → (g : Bool) → has_instant (gap a.span c.span) ≡ g → (e : Bool) → ends_before b.span (gap a.span c.span) ≡ e → ⊥
  no_end_by a c b v w n n' f s h true g true e =
      let t = some_instant (remains a.span b.span) (remains_some a.span b.span h) in
      clash (val b t.0) (sym (at_in b w t.0 (remains_within a.span b.span t.0 s n.0.some t.1)) ∙ sym (f t.0) ∙ at_out a (c ∷ v) t.0 (remains_after a.span b.span t.0 t.1) ∙ none_left t.0 c v n.2 (remains_left a.span c.span b.span t.0 e t.1))
  no_end_by a c b v w n n' f s h true g false e =
      let t = some_instant (gap a.span c.span) g in
      clash (val b t.0) (sym (at_in b w t.0 (gap_within a.span c.span b.span t.0 s n.0.some e t.1)) ∙ sym (f t.0) ∙ at_out a (c ∷ v) t.0 (gap_after a.span c.span t.0 t.1) ∙ none_left t.0 c v n.2 (gap_left a.span c.span t.0 t.1))
  no_end_by a c b v w n n' f s h false g j e = meets_by a c b v w n n' f s h (gap_or_meets a.span c.span n.1.in_order g) _ refl _ refl

  no_end : (a b : Slice C) (v w : List (Slice C)) → AreNormal start end continues (a ∷ v) → AreNormal start end continues (b ∷ w) → ((t : Ratio) → value_at value (a ∷ v) t ≡ value_at value (b ∷ w) t) → StartAlike a.span b.span → ends_before a.span b.span ≡ true → ⊥
  no_end a b [] w n n' f s h =
      let t = some_instant (remains a.span b.span) (remains_some a.span b.span h) in
      clash (val b t.0) (sym (at_in b w t.0 (remains_within a.span b.span t.0 s n.0.some t.1)) ∙ sym (f t.0) ∙ at_out a [] t.0 (remains_after a.span b.span t.0 t.1))
  no_end a b (c ∷ v) w n n' f s h = no_end_by a c b v w n n' f s h _ refl _ refl

  -- two courses with the same values on a span
  same_course : (s : SpanOf) (c d : C) → has_instant s ≡ true → (before s.lower s.upper ≡ false → start c ≡ end c) → (before s.lower s.upper ≡ false → start d ≡ end d) → ((t : Ratio) → has s t ≡ true → value c s.lower s.upper t ≡ value d s.lower s.upper t) → (k : Bool) → before s.lower s.upper ≡ k → c ≡ d
  same_course s c d h lc ld f true e =
      let p = two_between s.lower s.upper e in
      let x = inner_has s p.first p.after_l (before-trans p.first p.second s.upper p.in_turn p.before_u) in
      let y = inner_has s p.second (before-trans s.lower p.first p.second p.after_l p.in_turn) p.before_u in
      let r = glue laws c d s.lower s.upper s.lower s.upper p.first p.second (has_from_to s p.first x) (has_from_to s p.second y) (has_from_to s p.first x) (has_from_to s p.second y) p.in_turn (f p.first x) (f p.second y) in
      let first : value c s.lower s.upper s.lower ≡ value d s.lower s.upper s.lower = sym (r.first s.lower (lower_from_to s h)) ∙ r.second s.lower (lower_from_to s h) in
      let last : value c s.lower s.upper s.upper ≡ value d s.lower s.upper s.upper = sym (r.first s.upper (upper_from_to s h)) ∙ r.second s.upper (upper_from_to s h) in
      laws.by_ends c d (sym (laws.at_lower c s.lower s.upper) ∙ first ∙ laws.at_lower d s.lower s.upper) (sym (laws.at_upper c s.lower s.upper e) ∙ last ∙ laws.at_upper d s.lower s.upper e)
  same_course s c d h lc ld f false e =
      let starts : start c ≡ start d = sym (laws.at_lower c s.lower s.upper) ∙ f s.lower (short_has s h e) ∙ laws.at_lower d s.lower s.upper in
      laws.by_ends c d starts (sym (lc e) ∙ starts ∙ ld e)

  none_after : (a : Slice C) (v : List (Slice C)) (t : Ratio) → AreNormal start end continues (a ∷ v) → has a.span t ≡ true → value_at value v t ≡ None
  none_after a [] t n h = refl
  none_after a (c ∷ v) t n h = none_left t c v n.2 (in_left a.span c.span t n.1.in_order h)

  tails : (a b : Slice C) (v w : List (Slice C)) → AreNormal start end continues (a ∷ v) → AreNormal start end continues (b ∷ w) → ((t : Ratio) → value_at value (a ∷ v) t ≡ value_at value (b ∷ w) t) → a.span ≡ b.span → (t : Ratio) (k : Bool) → has a.span t ≡ k → value_at value v t ≡ value_at value w t
  tails a b v w n m f e t true h = none_after a v t n h ∙ sym (none_after b w t m (subst (λ s. has s t ≡ true) e h))
  tails a b v w n m f e t false h = sym (at_out a v t h) ∙ f t ∙ at_out b w t (subst (λ s. has s t ≡ false) e h)

  same_on : (s r : SpanOf) (c d : C) → s ≡ r → has_instant s ≡ true → (before s.lower s.upper ≡ false → start c ≡ end c) → (before r.lower r.upper ≡ false → start d ≡ end d) → ((t : Ratio) → has s t ≡ true → value c s.lower s.upper t ≡ value d r.lower r.upper t) → c ≡ d
  same_on s r c d e h lc ld f = same_course s c d h lc (subst (λ x. before x.lower x.upper ≡ false → start d ≡ end d) (sym e) ld) (λ t k. f t k ∙ ap (λ x. value d x.lower x.upper t) (sym e)) (before s.lower s.upper) refl

  pub unique : (v w : List (Slice C)) → AreNormal start end continues v → AreNormal start end continues w → ((t : Ratio) → value_at value v t ≡ value_at value w t) → v ≡ w
  unique [] [] n m f = refl
  unique [] (b ∷ w) n m f = let t = some_instant b.span m.0.some in absurd (clash (val b t.0) (sym (at_in b w t.0 t.1) ∙ sym (f t.0)))
  unique (a ∷ v) [] n m f = let t = some_instant a.span n.0.some in absurd (clash (val a t.0) (sym (at_in a v t.0 t.1) ∙ f t.0))
  unique (a ∷ v) (b ∷ w) n m f =
      let g : (t : Ratio) → value_at value (b ∷ w) t ≡ value_at value (a ∷ v) t = λ t. sym (f t) in
      let s = start_alike a.span b.span (no_start a b v w n m f) (no_start b a w v m n g) in
      let s' = start_alike b.span a.span (no_start b a w v m n g) (no_start a b v w n m f) in
      let e = same_span a.span b.span s (false_from_ne_true _ (no_end a b v w n m f s)) (false_from_ne_true _ (no_end b a w v m n g s')) in
      let c : a.course ≡ b.course = same_on a.span b.span a.course b.course e n.0.some n.0.level m.0.level (λ t h. in_first a b v w t f h (subst (λ x. has x t ≡ true) e h)) in
      let h : a ≡ b = slice_same a.span b.span a.course b.course e c in
      joined_lists a b v w h (unique v w n.2 m.2 (λ t. tails a b v w n m f e t (has a.span t) refl))

-- two normal lists of slices that are the same function of time are the same list
abbrev pub OneList : {C B : Type 0} → CourseOf C B → Type 0
OneList {C} course = (v w : List (Slice C)) → AreNormal course.start course.end course.continues v → AreNormal course.start course.end course.continues w → ((t : Ratio) → value_at course.value v t ≡ value_at course.value w t) → v ≡ w
