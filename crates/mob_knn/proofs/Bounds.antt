-- What the gap of two boxes says about their contents.
use Rattle.std.{specs.Prelude.{cond, not, IfSome}, proofs.Common.{◌≡◌, ◌⊎◌, inl, inr, Bool, true, false, Option, Some, None, arith, refl, sym, ap, ◌∙◌, subst}}
use Rattle.std.proofs.lemmas.Bool.{and_parts, false_from_ne_true, not-false}
use Rattle.mob_ratio.{specs.Ratio.{Ratio, ◌+ℚ◌, ◌-ℚ◌, ◌*ℚ◌, ◌≤ℚ◌}, specs.Order.{before, up_to}, specs.Sign.{nil}, proofs.IntRing.{linear}, proofs.Clear.{clear4, cleared}, proofs.Field.{not_both}}
use Rattle.mob_ratio.{proofs.Order.{not-up_to-le, le-up_to, before-lt}, proofs.Convex.{square_le, add_le}}
use Rattle.mob_span.specs.Span.{SpanOf, InSpan}
use Rattle.mob_plane.specs.declared.point.Point.{Point}
use Rattle.mob_stbox.{specs.Areas.{InArea, is_area}, specs.Boxes.{BoxOf, InBox, area_stands, where_both, spans_meet, contains}, specs.declared.area.Area.{Area}}
use Rattle.mob_stbox.{proofs.BoxLaws.{contains_is, in_contained}, proofs.Sides.{spans_meet_exact}}
use Rattle.mob_near.{specs.Approaches.{IsNearest, IsApproach}, specs.Distances.{distance_squared}}
use Rattle.mob_meets.{specs.Covers.{Covers}, proofs.Near.{there_in}}
use Rattle.mob_knn.specs.declared.gaps.kind.Gap.TheVariants.{Apart, AtLeast}
use Rattle.mob_knn.specs.Gaps.{area_gap, area_gap_parts, gap_east, all_fit, exact_or_nil, are_apart, space_gap, gap_of, gap_reaches, AreApart, IsGap, IsLeastGap, IsLeastSquare}
use Rattle.mob_knn.{proofs.Fitting.{is_all_fit, is_not_all_fit}, proofs.Ranges.{between_below, between_taken}}

add_both : (a b c d : Ratio) → a ≤ℚ c → b ≤ℚ d → (a +ℚ b) ≤ℚ (c +ℚ d)
add_both = clear4 _ (λ D a b c d z h k. let h' = simp cleared at h in let k' = simp cleared at k in simp cleared (omega (arith, linear)))

pub area_below : (a b : Area) (p q : Point) → InArea a p → InArea b q → area_gap a b ≤ℚ distance_squared p q
area_below a b p q i j = add_both _ _ _ _
    (between_below a.xmin a.xmax b.xmin b.xmax p.x q.x i.from_west i.to_east j.from_west j.to_east)
    (between_below a.ymin a.ymax b.ymin b.ymax p.y q.y i.from_south i.to_north j.from_south j.to_north)

pub least_square : (a b : Area) → is_area a ≡ true → is_area b ≡ true → IsLeastSquare a b (area_gap a b)
least_square a b h k =
    let h' = and_parts _ _ h in
    let k' = and_parts _ _ k in
    let u = between_taken a.xmin a.xmax b.xmin b.xmax (not-up_to-le _ _ h'.0) (not-up_to-le _ _ k'.0) in
    let v = between_taken a.ymin a.ymax b.ymin b.ymax (not-up_to-le _ _ h'.1) (not-up_to-le _ _ k'.1) in
    record {
      lower = λ p q i j. ap not (le-up_to (area_gap a b) (distance_squared p q) (area_below a b p q i j));
      taken = (
        record { x = u.x; y = v.x },
        record { x = u.y; y = v.y },
        record { from_west = u.from_a; to_east = u.to_b; from_south = v.from_a; to_north = v.to_b },
        record { from_west = u.from_c; to_east = u.to_d; from_south = v.from_c; to_north = v.to_d },
        ap (λ z. z +ℚ (v.x -ℚ v.y) *ℚ (v.x -ℚ v.y)) u.square ∙ ap (λ z. gap_east a b *ℚ gap_east a b +ℚ z) v.square,
      );
    }

-- ---- the contents of two boxes

square_not_below : (p q : Point) → nil ≤ℚ distance_squared p q
square_not_below p q = add_le _ _ (square_le (p.x -ℚ q.x)) (square_le (p.y -ℚ q.y))

-- a lower bound of all squared distances is at most the nearest approach
up_to_nearest : (left right : Ratio → Option Point) (m v : Ratio) → IsNearest left right m → ((t : Ratio) (p q : Point) → left t ≡ Some p → right t ≡ Some q → v ≤ℚ distance_squared p q) → up_to v m ≡ true
up_to_nearest left right m v near h = ap not (false_from_ne_true (before m v) (λ k. let w = near.greatest v k in not_both _ _ (before-lt _ _ w.5) (h w.0 w.1 w.2 w.3 w.4)))

-- the gap of areas that contain their points at each common instant
fit_below : (a c : Area) (p q : Point) (t : Bool) → all_fit (area_gap_parts a c) ≡ t → InArea a p → InArea c q → exact_or_nil (area_gap_parts a c) (area_gap a c) ≤ℚ distance_squared p q
unfolding exact_or_nil
fit_below a c p q true e i j = rw e (area_below a c p q i j)
fit_below a c p q false e i j = rw e (square_not_below p q)

gap_below : (a c : Option Area) (p q : Point) → IfSome a (λ z. InArea z p) → IfSome c (λ z. InArea z q) → space_gap a c ≤ℚ distance_squared p q
gap_below None c p q i j = square_not_below p q
gap_below (Some a) None p q i j = square_not_below p q
gap_below (Some a) (Some c) p q i j = fit_below a c p q (all_fit (area_gap_parts a c)) refl i j

apart_off : (s r : Option SpanOf) (t : Ratio) → IfSome s (λ z. InSpan z t) → IfSome r (λ z. InSpan z t) → are_apart s r ≡ false
apart_off None r t h k = refl
apart_off (Some s) None t h k = refl
apart_off (Some s) (Some r) t h k = ap not ((spans_meet_exact s r).1 (t, h, k))

-- The approach of the contents of two boxes is not less than their gap; if the boxes are apart,
-- there is none.
pub approach_reaches : (one other : Ratio → Option Point) (b c : BoxOf) (m : Ratio) → Covers one b → Covers other c → IsApproach one other (Some m) → gap_reaches (gap_of b c) m ≡ true
unfolding gap_of
approach_reaches one other b c m h k (common, near) =
    let i = there_in one b common.0 common.1 h common.3 in
    let j = there_in other c common.0 common.2 k common.4 in
    let off = apart_off b.time c.time common.0 i.in_time j.in_time in
    rw off (up_to_nearest one other m (space_gap b.space c.space) near (λ t p q ep eq.
    gap_below b.space c.space p q (there_in one b t p h ep).in_space (there_in other c t q k eq).in_space))

-- a box over another contains its contents
pub covers_over : (place : Ratio → Option Point) (a b : BoxOf) → contains a b ≡ true → Covers place b → Covers place a
covers_over place a b h k t = by_place (place t) (k t)
  where
    by_place : (o : Option Point) → IfSome o (λ p. InBox b t p) → IfSome o (λ p. InBox a t p)
    by_place None i = tt
    by_place (Some p) i = in_contained a b t p (contains_is a b h) i

-- ---- the meaning of the gap

pub apart_means : (s r : Option SpanOf) → are_apart s r ≡ true → (x : SpanOf) × (y : SpanOf) × (s ≡ Some x) × (r ≡ Some y) × ((t : Ratio) → InSpan x t → InSpan y t → ⊥)
apart_means None r h = absurd cc
apart_means (Some s) None h = absurd cc
apart_means (Some s) (Some r) h = (s, r, refl, refl, λ t i j. absurd (is_false (spans_meet s r) h ((spans_meet_exact s r).1 (t, i, j))))
  where
    is_false : (b : Bool) → not b ≡ true → b ≡ true → ⊥
    is_false true e f = cc
    is_false false e f = cc

together : (b q : BoxOf) → are_apart b.time q.time ≡ false → AreApart b q → ⊥
together b q h (s, r, es, er, none) = by_times b.time q.time s r es er h none
  where
    by_times : (o p : Option SpanOf) (s r : SpanOf) → o ≡ Some s → p ≡ Some r → are_apart o p ≡ false → ((t : Ratio) → InSpan s t → InSpan r t → ⊥) → ⊥
    by_times o p s r e f h none = let w = (spans_meet_exact s r).0 (not-false (spans_meet s r) (subst (λ z. not (where_both spans_meet (Some s) z) ≡ false) f (subst (λ z. not (where_both spans_meet z p) ≡ false) e h))) in none w.0 w.1 w.2

least_gap : (b q : BoxOf) → area_stands b.space ≡ true → area_stands q.space ≡ true → are_apart b.time q.time ≡ false → IsLeastGap b q (space_gap b.space q.space)
unfolding exact_or_nil
least_gap b q h k off = record {
  together = together b q off;
  exact = λ a c ea ec fit.
      let e : space_gap b.space q.space ≡ area_gap a c = ap (λ o. space_gap o q.space) ea ∙ ap (λ o. space_gap (Some a) o) ec ∙ ap (λ z. cond z (area_gap a c) nil) (is_all_fit (area_gap_parts a c) fit) in
      subst (λ z. IsLeastSquare a c z) (sym e) (least_square a c (subst (λ o. area_stands o ≡ true) ea h) (subst (λ o. area_stands o ≡ true) ec k));
  large = λ a c ea ec none. ap (λ o. space_gap o q.space) ea ∙ ap (λ o. space_gap (Some a) o) ec ∙ ap (λ z. cond z (area_gap a c) nil) (is_not_all_fit (area_gap_parts a c) none);
}

pub gap_means : (b q : BoxOf) → area_stands b.space ≡ true → area_stands q.space ≡ true → IsGap b q (gap_of b q)
unfolding gap_of
gap_means b q h k = by_test (are_apart b.time q.time) refl
  where
    by_test : (t : Bool) → are_apart b.time q.time ≡ t → IsGap b q (cond t Apart (AtLeast (space_gap b.space q.space)))
    by_test true e = apart_means b.time q.time e
    by_test false e = least_gap b q h k e

-- ---- how the code computes it

pub found_apart : (b q : BoxOf) → are_apart b.time q.time ≡ true → Apart ≡ gap_of b q
unfolding gap_of
found_apart b q e = ap (λ z. cond z Apart (AtLeast (space_gap b.space q.space))) (sym e)

pub found_least : (b q : BoxOf) (a c : Area) (v : Ratio) → are_apart b.time q.time ≡ false → b.space ≡ Some a → q.space ≡ Some c → v ≡ exact_or_nil (area_gap_parts a c) (area_gap a c) → AtLeast v ≡ gap_of b q
unfolding gap_of
found_least b q a c v e ea ec f =
    ap AtLeast (f ∙ ap (λ o. space_gap (Some a) o) (sym ec) ∙ ap (λ o. space_gap o q.space) (sym ea))
    ∙ ap (λ z. cond z Apart (AtLeast (space_gap b.space q.space))) (sym e)

pub least_means : (b q : BoxOf) (a c : Area) (v : Ratio) → are_apart b.time q.time ≡ false → b.space ≡ Some a → q.space ≡ Some c → is_area a ≡ true → is_area c ≡ true → v ≡ exact_or_nil (area_gap_parts a c) (area_gap a c) → IsGap b q (AtLeast v)
least_means b q a c v e ea ec sa sc f =
    subst (λ g. IsGap b q g) (sym (found_least b q a c v e ea ec f)) (gap_means b q (subst (λ o. area_stands o ≡ true) (sym ea) sa) (subst (λ o. area_stands o ≡ true) (sym ec) sc))

space_nil : (a c : Option Area) → (a ≡ None) ⊎ (c ≡ None) → space_gap a c ≡ nil
space_nil None c h = refl
space_nil (Some a) None h = refl
space_nil (Some a) (Some c) (inl h) = absurd cc
space_nil (Some a) (Some c) (inr h) = absurd cc

-- a box without space
pub found_nil : (b q : BoxOf) (v : Ratio) → are_apart b.time q.time ≡ false → (b.space ≡ None) ⊎ (q.space ≡ None) → v ≡ nil → AtLeast v ≡ gap_of b q
unfolding gap_of
found_nil b q v e h f = ap AtLeast (f ∙ sym (space_nil b.space q.space h)) ∙ ap (λ z. cond z Apart (AtLeast (space_gap b.space q.space))) (sym e)
