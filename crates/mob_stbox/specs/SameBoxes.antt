-- The test of whether two boxes are equal is exact.
use Rattle.std.{specs.Prelude.{◌≡◌, ◌↔◌, Bool, true, false, IsTrue, refl, Option, Some, None}, specs.Cmp.{IsEquivalence}, proofs.lemmas.Bool.{and_parts, and_from}}
use Rattle.std.proofs.Common.{ap, sym, ◌∙◌, true≢false}
use Rattle.mob_ratio.{specs.Ratio.{Ratio}, specs.Order.{same}, proofs.Order.{same_exact, same_truth}}
use Rattle.mob_span.{specs.Span.{SpanOf}, specs.Flags.{same_bool_exact}}
use Rattle.mob_stbox.{specs.Areas.{same_area}, specs.Boxes.{BoxOf, same_span, same_part, same_box}, specs.declared.area.Area.{Area}}

area_is : (a b : Area) → same_area a b ≡ true → a ≡ b
area_is a b h =
    let k = and_parts _ _ h in
    let x = and_parts _ _ k.0 in
    let y = and_parts _ _ k.1 in
    let p = (same_exact a.xmin b.xmin).0 x.0 in
    let q = (same_exact a.xmax b.xmax).0 x.1 in
    let r = (same_exact a.ymin b.ymin).0 y.0 in
    let s = (same_exact a.ymax b.ymax).0 y.1 in
    λ i. record { xmin = p i; xmax = q i; ymin = r i; ymax = s i }

number_self : (a : Ratio) → same a a ≡ true
number_self a = (same_exact a a).1 refl

area_self : (a : Area) → same_area a a ≡ true
area_self a = and_from _ _ (and_from _ _ (number_self a.xmin) (number_self a.xmax)) (and_from _ _ (number_self a.ymin) (number_self a.ymax))

span_is : (s r : SpanOf) → same_span s r ≡ true → s ≡ r
span_is s r h =
    let k = and_parts _ _ h in
    let x = and_parts _ _ k.0 in
    let y = and_parts _ _ k.1 in
    let p = (same_exact s.lower r.lower).0 x.0 in
    let q = (same_exact s.upper r.upper).0 x.1 in
    let u = (same_bool_exact s.lower_inc r.lower_inc).0 y.0 in
    let v = (same_bool_exact s.upper_inc r.upper_inc).0 y.1 in
    λ i. record { lower = p i; upper = q i; lower_inc = u i; upper_inc = v i }

span_self : (s : SpanOf) → same_span s s ≡ true
span_self s = and_from _ _ (and_from _ _ (number_self s.lower) (number_self s.upper)) (and_from _ _ ((same_bool_exact s.lower_inc s.lower_inc).1 refl) ((same_bool_exact s.upper_inc s.upper_inc).1 refl))

part_is : {A : Type 0} (test : A → A → Bool) → ((x y : A) → test x y ≡ true → x ≡ y) → (a b : Option A) → same_part test a b ≡ true → a ≡ b
part_is test f None None h = refl
part_is test f None (Some y) h = absurd (true≢false (sym h))
part_is test f (Some x) None h = absurd (true≢false (sym h))
part_is test f (Some x) (Some y) h = ap Some (f x y h)

part_self : {A : Type 0} (test : A → A → Bool) → ((x : A) → test x x ≡ true) → (a : Option A) → same_part test a a ≡ true
part_self test f None = refl
part_self test f (Some x) = f x

-- a box is equal to itself
pub same_self : (a : BoxOf) → same_box a a ≡ true
unfolding same_box
same_self a = and_from _ _ (part_self same_area area_self a.space) (part_self same_span span_self a.time)

pub same_is : (a b : BoxOf) → same_box a b ≡ true → a ≡ b
unfolding same_box
same_is a b h =
    let k = and_parts _ _ h in
    let p = part_is same_area area_is a.space b.space k.0 in
    let q = part_is same_span span_is a.time b.time k.1 in
    λ i. record { space = p i; time = q i }

pub same_box_exact : (a b : BoxOf) → IsTrue (same_box a b) ↔ (a ≡ b)
same_box_exact a b = (same_is a b, λ e. ap (λ z. same_box a z) (sym e) ∙ same_self a)

-- the same for a named result
pub same_box_exact_as : (a b : BoxOf) (r : Bool) → r ≡ same_box a b → IsTrue r ↔ (a ≡ b)
same_box_exact_as a b r e = rw e (same_box_exact a b)

-- equality of boxes is an equivalence relation
pub same_box_equivalence : IsEquivalence same_box
same_box_equivalence = record {
  refl = same_self;
  symm = λ a b. same_truth (same_box a b) (same_box b a) (λ h. (same_box_exact b a).1 (sym (same_is a b h))) (λ h. (same_box_exact a b).1 (sym (same_is b a h)));
  congr = λ a b c h. ap (λ z. same_box z c) (same_is a b h);
}
