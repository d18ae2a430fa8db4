-- Courses that agree at two instants are parts of one course.
use Rattle.std.{specs.Prelude.{◌≡◌, Bool, true, false, List, refl}, proofs.Common.{arith, ap, sym, ◌∙◌, subst}}
use Rattle.mob_span.{specs.Span.{has}, specs.Neighbours.{Meets}, proofs.Insides.{inner_has}, proofs.SpanLemmas.{joined_long, some_upto, short_has}}
use Rattle.mob_ratio.{specs.Ratio.{Ratio}, specs.Order.{before, up_to}, proofs.Order.{before-trans, before-neither, before-within}}
use Rattle.mob_slice.{specs.Course.{IsCourse}, specs.Slices.{IsSound}, specs.declared.slice.Slice.{Slice}}
use Rattle.mob_lift.{proofs.CourseWholes.{agree}, proofs.Instants.{is_from_to, least, most, two_between}}

-- a course on a longer span has the values of another on its own span
abbrev pub HasPart : {C B : Type 0} → (C → Ratio → Ratio → Ratio → B) → C → Ratio → Ratio → C → Ratio → Ratio → Type 0
HasPart value e low high c lower upper = (t : Ratio) → is_from_to lower upper t ≡ true → value e low high t ≡ value c lower upper t

-- the course of which two courses that agree at two instants are parts
pub record IsGlued {C B : Type 0} (value : C → Ratio → Ratio → Ratio → B) (c d : C) (lower upper lower' upper' : Ratio) : Type 0 where
  pub whole : C
  pub low : Ratio
  pub high : Ratio
  pub starts : up_to low lower ≡ true
  pub starts' : up_to low lower' ≡ true
  pub ends : up_to upper high ≡ true
  pub ends' : up_to upper' high ≡ true
  pub first : HasPart value whole low high c lower upper
  pub second : HasPart value whole low high d lower' upper'

long_of : (l u s t : Ratio) → is_from_to l u s ≡ true → is_from_to l u t ≡ true → before s t ≡ true → before l u ≡ true
long_of l u s t a b h = grind (arith, a, b, h, before-trans l s t, before-trans s t u, before-neither l s, before-neither t u, before-trans l t u, before-trans l s u)

module _ {C B : Type 0} {steady copies : Bool} {value : C → Ratio → Ratio → Ratio → B} {start end : C → B} {can_make : B → B → Type 0} {make : B → B → C} {continues : C → C → Ratio → Ratio → Ratio → Bool} {parts : C → Ratio → Ratio → Ratio → List Ratio} (laws : IsCourse steady copies value start end can_make make continues parts) where
  pub glue : (c d : C) (l u l' u' s t : Ratio) → is_from_to l u s ≡ true → is_from_to l u t ≡ true → is_from_to l' u' s ≡ true → is_from_to l' u' t ≡ true → before s t ≡ true → value c l u s ≡ value d l' u' s → value c l u t ≡ value d l' u' t → IsGlued value c d l u l' u'
  glue c d l u l' u' s t a b a' b' h e f =
      let long = long_of l u s t a b h in
      let long' = long_of l' u' s t a' b' h in
      let x = least l l' in
      let y = most u u' in
      let p = laws.part c l u x.at y.at long (before-within x.at l u y.at x.first long y.first) in
      record {
        whole = make (value c l u x.at) (value c l u y.at);
        low = x.at;
        high = y.at;
        starts = x.first;
        starts' = x.second;
        ends = y.first;
        ends' = y.second;
        first = λ r i. p.same r;
        second = λ r i. p.same r ∙ agree laws c d l u l' u' s t long long' h e f r;
      }

  -- a course that has the values of a slice on its span also has them at its ends
  ends_by : (a : Slice C) (e : C) (low high : Ratio) → IsSound start end a → before low high ≡ true → ((t : Ratio) → has a.span t ≡ true → value a.course a.span.lower a.span.upper t ≡ value e low high t) → (k : Bool) → before a.span.lower a.span.upper ≡ k → (value e low high a.span.lower ≡ start a.course) × (value e low high a.span.upper ≡ end a.course)
  ends_by a e low high s w f true h =
      let p = two_between a.span.lower a.span.upper h in
      let x = inner_has a.span p.first p.after_l (before-trans p.first p.second a.span.upper p.in_turn p.before_u) in
      let y = inner_has a.span p.second (before-trans a.span.lower p.first p.second p.after_l p.in_turn) p.before_u in
      let g : (r : Ratio) → value a.course a.span.lower a.span.upper r ≡ value e low high r = agree laws a.course e a.span.lower a.span.upper low high p.first p.second h w p.in_turn (f p.first x) (f p.second y) in
      (sym (g a.span.lower) ∙ laws.at_lower a.course a.span.lower a.span.upper, sym (g a.span.upper) ∙ laws.at_upper a.course a.span.lower a.span.upper h)
  ends_by a e low high s w f false h =
      let at : a.span.lower ≡ a.span.upper = before-neither a.span.lower a.span.upper h (let u = some_upto a.span s.some in grind (arith, u)) in
      let first : value e low high a.span.lower ≡ start a.course = sym (f a.span.lower (short_has a.span s.some h)) ∙ laws.at_lower a.course a.span.lower a.span.upper in
      (first, ap (λ t. value e low high t) (sym at) ∙ first ∙ s.level h)

  pub continued_if : (a b : Slice C) (e : C) (low high : Ratio) → Meets a.span b.span → IsSound start end a → IsSound start end b → up_to low a.span.lower ≡ true → up_to b.span.upper high ≡ true → ((t : Ratio) → has a.span t ≡ true → value a.course a.span.lower a.span.upper t ≡ value e low high t) → ((t : Ratio) → has b.span t ≡ true → value b.course b.span.lower b.span.upper t ≡ value e low high t) → continues a.course b.course a.span.lower a.span.upper b.span.upper ≡ true
  continued_if a b e low high m sa sb p q f g =
      let long : before a.span.lower b.span.upper ≡ true = joined_long a.span b.span m sa.some sb.some in
      let wide = before-within low a.span.lower b.span.upper high p long q in
      let x = ends_by a e low high sa wide f (before a.span.lower a.span.upper) refl in
      let y = ends_by b e low high sb wide g (before b.span.lower b.span.upper) refl in
      let w = laws.part e low high a.span.lower b.span.upper wide long in
      let made : can_make (start a.course) (end b.course) = subst (λ z. can_make z (end b.course)) x.0 (subst (λ z. can_make (value e low high a.span.lower) z) y.1 w.made) in
      (laws.whole a.course b.course a.span.lower a.span.upper b.span.upper).1 (record {
        made = made;
        met = sym x.1 ∙ ap (λ t. value e low high t) m.at_one ∙ y.0;
        straight = ap (λ z. value (make z (end b.course)) a.span.lower b.span.upper a.span.upper) (sym x.0) ∙ ap (λ z. value (make (value e low high a.span.lower) z) a.span.lower b.span.upper a.span.upper) (sym y.1) ∙ w.same a.span.upper ∙ x.1;
      })
