-- Laws of boxes: the meaning of their tests, and what a search through a tree of boxes relies on.
use Rattle.std.{specs.Prelude.{◌≡◌, ◌↔◌, ◌⊎◌, IsTrue, Bool, true, false, refl, ◌||◌, ◌&&◌, not, Option, Some, None, is_some, IfSome, IsNone, MatchOption}, proofs.lemmas.Bool.{and_parts, and_from}}
use Rattle.std.proofs.Common.{arith, ap, sym, ◌∙◌, true≢false, inl, inr, subst}
use Rattle.mob_ratio.{specs.Ratio.{Ratio, ◌<ℚ◌}, specs.Order.{before, up_to}, proofs.Order.{before-lt, lt-before, before-back, before-neither, up_to-self, up_to-both}}
use Rattle.mob_span.{specs.Span.{SpanOf, InSpan}, specs.Neighbours.{is_inside}, proofs.SpanLemmas.{has_exact}, proofs.Ends.{inside_exact}, proofs.Insides.{inside_self, inside-trans}}
use Rattle.mob_plane.specs.declared.point.Point.{Point}
use Rattle.mob_stbox.specs.Areas.{InArea, is_area, areas_meet, area_over, area_cover}
use Rattle.mob_stbox.specs.Boxes.{BoxOf, NoBox, area_stands, span_stands, is_box, is_whole, InBox, in_space, in_time, in_box, both_have, BoxesMeet, where_both, spans_meet, overlaps, BoxContains}
use Rattle.mob_stbox.{specs.Boxes.{lies_in, contains, IsCover, span_cover, of_both, cover}, specs.declared.area.Area.{Area}}
use Rattle.mob_stbox.proofs.Sides.{four, in_area_exact, areas_meet_exact, spans_meet_exact, area_over_exact, in_over, in_inside, area_over_self, area_over_trans, area_over_meets, area_cover_left}
use Rattle.mob_stbox.proofs.Sides.{area_cover_right, area_cover_least, over_is_area, inside_meets, span_cover_left, span_cover_right, span_cover_least, span_cover_some}

-- the dimensions of a box are valid
pub box_area : (b : BoxOf) → is_box b ≡ true → area_stands b.space ≡ true
box_area b h = (and_parts (area_stands b.space) (span_stands b.time) (and_parts (is_some b.space || is_some b.time) _ h).1).0

pub box_span : (b : BoxOf) → is_box b ≡ true → span_stands b.time ≡ true
box_span b h = (and_parts (area_stands b.space) (span_stands b.time) (and_parts (is_some b.space || is_some b.time) _ h).1).1

-- membership
pub in_box_exact : (b : BoxOf) (t : Ratio) (p : Point) → IsTrue (in_box b t p) ↔ InBox b t p
in_box_exact b t p = (
  λ h. let k = and_parts (in_space b.space p) (in_time b.time t) h in record { in_space = (space_part b.space).0 k.0; in_time = (time_part b.time).0 k.1 },
  λ h. and_from (in_space b.space p) (in_time b.time t) ((space_part b.space).1 h.in_space) ((time_part b.time).1 h.in_time),
)
  where
    space_part : (a : Option Area) → (in_space a p ≡ true) ↔ IfSome a (λ x. InArea x p)
    space_part None = (λ h. tt, λ h. refl)
    space_part (Some x) = in_area_exact x p

    time_part : (s : Option SpanOf) → (in_time s t ≡ true) ↔ IfSome s (λ x. InSpan x t)
    time_part None = (λ h. tt, λ h. refl)
    time_part (Some x) = has_exact x t

-- overlap
space_meet : (a b : Option Area) → area_stands a ≡ true → area_stands b ≡ true → (where_both areas_meet a b ≡ true) ↔ IfSome a (λ x. IfSome b (λ y. (p : Point) × InArea x p × InArea y p))
space_meet None b h k = (λ e. tt, λ e. refl)
space_meet (Some x) None h k = (λ e. tt, λ e. refl)
space_meet (Some x) (Some y) h k = areas_meet_exact x y h k

time_meet : (s r : Option SpanOf) → (where_both spans_meet s r ≡ true) ↔ IfSome s (λ x. IfSome r (λ y. (t : Ratio) × InSpan x t × InSpan y t))
time_meet None r = (λ e. tt, λ e. refl)
time_meet (Some x) None = (λ e. tt, λ e. refl)
time_meet (Some x) (Some y) = spans_meet_exact x y

-- the test of two boxes, if their rectangles have a point
pub meet_by_test : (a b : BoxOf) → area_stands a.space ≡ true → area_stands b.space ≡ true → (overlaps a b ≡ true) ↔ BoxesMeet a b
unfolding overlaps
meet_by_test a b h k = (
  λ e.
      let m = and_parts (both_have a.space b.space || both_have a.time b.time) (where_both areas_meet a.space b.space && where_both spans_meet a.time b.time) e in
      let n = and_parts (where_both areas_meet a.space b.space) (where_both spans_meet a.time b.time) m.1 in
      record { share = m.0; in_space = (space_meet a.space b.space h k).0 n.0; in_time = (time_meet a.time b.time).0 n.1 },
  λ e. and_from (both_have a.space b.space || both_have a.time b.time) (where_both areas_meet a.space b.space && where_both spans_meet a.time b.time) e.share
      (and_from (where_both areas_meet a.space b.space) (where_both spans_meet a.time b.time) ((space_meet a.space b.space h k).1 e.in_space) ((time_meet a.time b.time).1 e.in_time)),
)

pub overlaps_exact : (a b : BoxOf) → is_box a ≡ true → is_box b ≡ true → IsTrue (overlaps a b) ↔ BoxesMeet a b
overlaps_exact a b h k = meet_by_test a b (box_area a h) (box_area b k)

pub overlaps_exact_as : (a b : BoxOf) (r : Bool) → is_box a ≡ true → is_box b ≡ true → r ≡ overlaps a b → IsTrue r ↔ BoxesMeet a b
overlaps_exact_as a b r h k e = rw e (overlaps_exact a b h k)

-- containment
space_over : (a b : Option Area) → lies_in area_over a b ≡ true → IfSome a (λ x. MatchOption b ⊥ (λ y. (p : Point) → InArea y p → InArea x p))
space_over None b h = tt
space_over (Some x) None h = absurd (true≢false (sym h))
space_over (Some x) (Some y) h = λ p i. in_over x y p h i

space_over-back : (a b : Option Area) → area_stands b ≡ true → IfSome a (λ x. MatchOption b ⊥ (λ y. (p : Point) → InArea y p → InArea x p)) → lies_in area_over a b ≡ true
space_over-back None b h f = refl
space_over-back (Some x) None h f = absurd f
space_over-back (Some x) (Some y) h f = (area_over_exact x y h).1 f

time_over : (s r : Option SpanOf) → lies_in is_inside s r ≡ true → IfSome s (λ x. MatchOption r ⊥ (λ y. (t : Ratio) → InSpan y t → InSpan x t))
time_over None r h = tt
time_over (Some x) None h = absurd (true≢false (sym h))
time_over (Some x) (Some y) h = λ t i. (has_exact x t).0 (in_inside x y t h ((has_exact y t).1 i))

time_over-back : (s r : Option SpanOf) → span_stands r ≡ true → IfSome s (λ x. MatchOption r ⊥ (λ y. (t : Ratio) → InSpan y t → InSpan x t)) → lies_in is_inside s r ≡ true
time_over-back None r h f = refl
time_over-back (Some x) None h f = absurd f
time_over-back (Some x) (Some y) h f = (inside_exact x y h).1 f

pub contains_is : (a b : BoxOf) → contains a b ≡ true → BoxContains a b
unfolding contains
contains_is a b e = let m = and_parts (lies_in area_over a.space b.space) (lies_in is_inside a.time b.time) e in record { in_space = space_over a.space b.space m.0; in_time = time_over a.time b.time m.1 }

pub is_contains : (a b : BoxOf) → is_box b ≡ true → BoxContains a b → contains a b ≡ true
unfolding contains
is_contains a b k e = and_from (lies_in area_over a.space b.space) (lies_in is_inside a.time b.time) (space_over-back a.space b.space (box_area b k) e.in_space) (time_over-back a.time b.time (box_span b k) e.in_time)

pub contains_exact_as : (a b : BoxOf) (r : Bool) → is_box b ≡ true → r ≡ contains a b → IsTrue r ↔ BoxContains a b
contains_exact_as a b r k e = rw e (contains_is a b, is_contains a b k)

-- whatever is in a box is in a box that contains it
pub in_contained : (a b : BoxOf) (t : Ratio) (p : Point) → BoxContains a b → InBox b t p → InBox a t p
in_contained a b t p c h = record { in_space = in_other a.space b.space c.in_space h.in_space; in_time = at_other a.time b.time c.in_time h.in_time }
  where
    in_other : (x y : Option Area) → IfSome x (λ x. MatchOption y ⊥ (λ y. (p : Point) → InArea y p → InArea x p)) → IfSome y (λ y. InArea y p) → IfSome x (λ x. InArea x p)
    in_other None y f h = tt
    in_other (Some x) None f h = absurd f
    in_other (Some x) (Some y) f h = f p h

    at_other : (s r : Option SpanOf) → IfSome s (λ x. MatchOption r ⊥ (λ y. (t : Ratio) → InSpan y t → InSpan x t)) → IfSome r (λ y. InSpan y t) → IfSome s (λ x. InSpan x t)
    at_other None r f h = tt
    at_other (Some x) None f h = absurd f
    at_other (Some x) (Some y) f h = f t h

-- Laws of boxes that have space and time.
pub whole_is : (a : BoxOf) → is_whole a ≡ true → (is_some a.space ≡ true) × (is_some a.time ≡ true)
unfolding is_whole
whole_is a w = and_parts (is_some a.space) (is_some a.time) w

some_over : {A : Type 0} (over : A → A → Bool) (a b : Option A) → is_some a ≡ true → lies_in over a b ≡ true → is_some b ≡ true
some_over over None b w h = absurd (true≢false (sym w))
some_over over (Some x) None w h = absurd (true≢false (sym h))
some_over over (Some x) (Some y) w h = refl

meet_over : {A : Type 0} (over meet : A → A → Bool) → ((x y z : A) → over x y ≡ true → meet y z ≡ true → meet x z ≡ true) → (a b q : Option A) → is_some a ≡ true → lies_in over a b ≡ true → where_both meet b q ≡ true → where_both meet a q ≡ true
meet_over over meet f None b q w h k = absurd (true≢false (sym w))
meet_over over meet f (Some x) None q w h k = absurd (true≢false (sym h))
meet_over over meet f (Some x) (Some y) None w h k = refl
meet_over over meet f (Some x) (Some y) (Some z) w h k = f x y z h k

trans_over : {A : Type 0} (over : A → A → Bool) → ((x y z : A) → over x y ≡ true → over y z ≡ true → over x z ≡ true) → (a b c : Option A) → lies_in over a b ≡ true → lies_in over b c ≡ true → lies_in over a c ≡ true
trans_over over f None b c h k = refl
trans_over over f (Some x) None c h k = absurd (true≢false (sym h))
trans_over over f (Some x) (Some y) None h k = absurd (true≢false (sym k))
trans_over over f (Some x) (Some y) (Some z) h k = f x y z h k

self_over : {A : Type 0} (over : A → A → Bool) → ((x : A) → over x x ≡ true) → (a : Option A) → lies_in over a a ≡ true
self_over over f None = refl
self_over over f (Some x) = f x

share_over : (a a' b b' q q' : Bool) → a ≡ true → a' ≡ true → ((b && q) || (b' && q')) ≡ true → ((a && q) || (a' && q')) ≡ true
share_over a a' b b' q q' h k m = grind (arith, h, k, m)

-- whatever overlaps a box overlaps each box that contains it and has space and time
pub over_overlaps : (a b q : BoxOf) → is_whole a ≡ true → contains a b ≡ true → overlaps b q ≡ true → overlaps a q ≡ true
unfolding contains overlaps
over_overlaps a b q w h k =
    let s = whole_is a w in
    let m = and_parts (lies_in area_over a.space b.space) (lies_in is_inside a.time b.time) h in
    let n = and_parts (both_have b.space q.space || both_have b.time q.time) (where_both areas_meet b.space q.space && where_both spans_meet b.time q.time) k in
    let o = and_parts (where_both areas_meet b.space q.space) (where_both spans_meet b.time q.time) n.1 in
    and_from (both_have a.space q.space || both_have a.time q.time) (where_both areas_meet a.space q.space && where_both spans_meet a.time q.time)
    (share_over (is_some a.space) (is_some a.time) (is_some b.space) (is_some b.time) (is_some q.space) (is_some q.time) s.0 s.1 n.0)
    (and_from (where_both areas_meet a.space q.space) (where_both spans_meet a.time q.time)
    (meet_over area_over areas_meet area_over_meets a.space b.space q.space s.0 m.0 o.0)
    (meet_over is_inside spans_meet inside_meets a.time b.time q.time s.1 m.1 o.1))

-- a box that lies in one with space and time has both
pub over_whole : (a b : BoxOf) → is_whole a ≡ true → contains a b ≡ true → is_whole b ≡ true
unfolding contains is_whole
over_whole a b w h =
    let s = and_parts (is_some a.space) (is_some a.time) w in
    let m = and_parts (lies_in area_over a.space b.space) (lies_in is_inside a.time b.time) h in
    and_from (is_some b.space) (is_some b.time) (some_over area_over a.space b.space s.0 m.0) (some_over is_inside a.time b.time s.1 m.1)

pub over_trans : (a b c : BoxOf) → contains a b ≡ true → contains b c ≡ true → contains a c ≡ true
unfolding contains
over_trans a b c h k =
    let m = and_parts (lies_in area_over a.space b.space) (lies_in is_inside a.time b.time) h in
    let n = and_parts (lies_in area_over b.space c.space) (lies_in is_inside b.time c.time) k in
    and_from (lies_in area_over a.space c.space) (lies_in is_inside a.time c.time) (trans_over area_over area_over_trans a.space b.space c.space m.0 n.0) (trans_over is_inside inside-trans a.time b.time c.time m.1 n.1)

pub over_self : (a : BoxOf) → contains a a ≡ true
unfolding contains
over_self a = and_from (lies_in area_over a.space a.space) (lies_in is_inside a.time a.time) (self_over area_over area_over_self a.space) (self_over is_inside inside_self a.time)

-- The cover of two boxes that have space and time.
some_of_both : {A : Type 0} (join : A → A → A) (a b : Option A) → is_some a ≡ true → is_some b ≡ true → is_some (of_both join a b) ≡ true
some_of_both join None b h k = absurd (true≢false (sym h))
some_of_both join (Some x) None h k = absurd (true≢false (sym k))
some_of_both join (Some x) (Some y) h k = refl

both_over_left : {A : Type 0} (over : A → A → Bool) (join : A → A → A) → ((x y : A) → over (join x y) x ≡ true) → (a b : Option A) → lies_in over (of_both join a b) a ≡ true
both_over_left over join f None b = refl
both_over_left over join f (Some x) None = refl
both_over_left over join f (Some x) (Some y) = f x y

both_over_right : {A : Type 0} (over : A → A → Bool) (join : A → A → A) → ((x y : A) → over (join x y) y ≡ true) → (a b : Option A) → lies_in over (of_both join a b) b ≡ true
both_over_right over join f None b = refl
both_over_right over join f (Some x) None = refl
both_over_right over join f (Some x) (Some y) = f x y

both_over_least : {A : Type 0} (over : A → A → Bool) (join : A → A → A) → ((x y d : A) → over d x ≡ true → over d y ≡ true → over d (join x y) ≡ true) → (a b d : Option A) → lies_in over d a ≡ true → lies_in over d b ≡ true → lies_in over d (of_both join a b) ≡ true
both_over_least over join f a b None h k = refl
both_over_least over join f None b (Some z) h k = absurd (true≢false (sym h))
both_over_least over join f (Some x) None (Some z) h k = absurd (true≢false (sym k))
both_over_least over join f (Some x) (Some y) (Some z) h k = f x y z h k

pub cover_whole : (a b : BoxOf) → is_whole a ≡ true → is_whole b ≡ true → is_whole (cover a b) ≡ true
unfolding is_whole cover
cover_whole a b w v =
    let s = and_parts (is_some a.space) (is_some a.time) w in
    let r = and_parts (is_some b.space) (is_some b.time) v in
    and_from (is_some (of_both area_cover a.space b.space)) (is_some (of_both span_cover a.time b.time)) (some_of_both area_cover a.space b.space s.0 r.0) (some_of_both span_cover a.time b.time s.1 r.1)

pub cover_over_left : (a b : BoxOf) → contains (cover a b) a ≡ true
unfolding contains cover
cover_over_left a b = and_from (lies_in area_over (of_both area_cover a.space b.space) a.space) (lies_in is_inside (of_both span_cover a.time b.time) a.time) (both_over_left area_over area_cover area_cover_left a.space b.space) (both_over_left is_inside span_cover span_cover_left a.time b.time)

pub cover_over_right : (a b : BoxOf) → contains (cover a b) b ≡ true
unfolding contains cover
cover_over_right a b = and_from (lies_in area_over (of_both area_cover a.space b.space) b.space) (lies_in is_inside (of_both span_cover a.time b.time) b.time) (both_over_right area_over area_cover area_cover_right a.space b.space) (both_over_right is_inside span_cover span_cover_right a.time b.time)

pub cover_least : (a b d : BoxOf) → contains d a ≡ true → contains d b ≡ true → contains d (cover a b) ≡ true
unfolding contains cover
cover_least a b d h k =
    let m = and_parts (lies_in area_over d.space a.space) (lies_in is_inside d.time a.time) h in
    let n = and_parts (lies_in area_over d.space b.space) (lies_in is_inside d.time b.time) k in
    and_from (lies_in area_over d.space (of_both area_cover a.space b.space)) (lies_in is_inside d.time (of_both span_cover a.time b.time)) (both_over_least area_over area_cover area_cover_least a.space b.space d.space m.0 n.0) (both_over_least is_inside span_cover span_cover_least a.time b.time d.time m.1 n.1)

pub cover_is : (a b : BoxOf) → is_box a ≡ true → is_box b ≡ true → IsCover a b (cover a b)
cover_is a b h k = record {
  first = contains_is (cover a b) a (cover_over_left a b);
  second = contains_is (cover a b) b (cover_over_right a b);
  least = λ d i j. contains_is d (cover a b) (cover_least a b d (is_contains d a h i) (is_contains d b k j));
}

pub cover_is_as : (a b c : BoxOf) → is_box a ≡ true → is_box b ≡ true → c ≡ cover a b → IsCover a b c
cover_is_as a b c h k e = rw e (cover_is a b h k)

area_of_both : (a b : Option Area) → area_stands a ≡ true → area_stands (of_both area_cover a b) ≡ true
area_of_both None b h = refl
area_of_both (Some x) None h = refl
area_of_both (Some x) (Some y) h = over_is_area (area_cover x y) x (area_cover_left x y) h

span_of_both : (s r : Option SpanOf) → span_stands s ≡ true → span_stands (of_both span_cover s r) ≡ true
span_of_both None r h = refl
span_of_both (Some x) None h = refl
span_of_both (Some x) (Some y) h = span_cover_some x y h

-- a cover of boxes with space and time is a box
pub cover_is_box : (a b : BoxOf) → is_whole a ≡ true → is_whole b ≡ true → is_box a ≡ true → is_box (cover a b) ≡ true
unfolding cover
cover_is_box a b w v h =
    let s = whole_is a w in
    let r = whole_is b v in
    let k = some_of_both area_cover a.space b.space s.0 r.0 in
    and_from (is_some (of_both area_cover a.space b.space) || is_some (of_both span_cover a.time b.time)) _ (rw k refl)
    (and_from (area_stands (of_both area_cover a.space b.space)) (span_stands (of_both span_cover a.time b.time)) (area_of_both a.space b.space (box_area a h)) (span_of_both a.time b.time (box_span a h)))

-- When no box has given dimensions.
not_area : (a : Area) → is_area a ≡ false → (a.xmax <ℚ a.xmin) ⊎ (a.ymax <ℚ a.ymin)
not_area a h = by_test (before a.xmax a.xmin) refl
  where
    by_test : (b : Bool) → before a.xmax a.xmin ≡ b → (a.xmax <ℚ a.xmin) ⊎ (a.ymax <ℚ a.ymin)
    by_test true e = inl (before-lt a.xmax a.xmin e)
    by_test false e = inr (before-lt a.ymax a.ymin (grind (arith, e, h)))

area_not : (a : Area) → (a.xmax <ℚ a.xmin) ⊎ (a.ymax <ℚ a.ymin) → is_area a ≡ false
area_not a h = elim h [ inl k ↦ grind (arith, lt-before a.xmax a.xmin k) | inr k ↦ grind (arith, lt-before a.ymax a.ymin k) ]

some_area : {x : Area} {a : Area} → Some x ≡ Some a → x ≡ a
some_area h = cc

pub no_area : (a : Area) (time : Option SpanOf) → is_area a ≡ false → NoBox (Some a) time
no_area a time h = inr (a, refl, not_area a h)

pub an_area : (a : Area) (time : Option SpanOf) → is_area a ≡ true → NoBox (Some a) time → ⊥
an_area a time h n = elim n [
  | inl k ↦ absurd (cc)
  | inr k ↦ let e : a ≡ k.0 = some_area k.1 in true≢false (sym h ∙ ap is_area e ∙ area_not k.0 k.2)
]

pub none_where : (space : Option Area) (time : Option SpanOf) (a : Area) → space ≡ Some a → is_area a ≡ false → (false ≡ false) ↔ NoBox space time
none_where space time a e h = (λ k. subst (λ s. NoBox s time) (sym e) (no_area a time h), λ n. refl)

pub some_where : (space : Option Area) (time : Option SpanOf) (a : Area) → space ≡ Some a → is_area a ≡ true → (true ≡ false) ↔ NoBox space time
some_where space time a e h = (λ k. absurd (true≢false k), λ n. absurd (an_area a time h (subst (λ s. NoBox s time) e n)))

-- the result made from an area is the box with that area
pub made_box : (a : Area) (time : Option SpanOf) (o : Option BoxOf) → is_area a ≡ true → IsNone o ↔ NoBox (Some a) time → IfSome o (λ b. b ≡ record { space = Some a; time = time }) → o ≡ Some (record { space = Some a; time = time })
made_box a time None h n v = absurd (an_area a time h (n.0 refl))
made_box a time (Some b) h n v = ap Some v

-- a single point is an area
pub point_is_area : (x y : Ratio) → is_area (record { xmin = x; xmax = x; ymin = y; ymax = y }) ≡ true
point_is_area x y = and_from (up_to x x) (up_to y y) (up_to-self x) (up_to-self y)

-- ---- two boxes that contain each other are equal

area_both : (a b : Area) → area_over a b ≡ true → area_over b a ≡ true → a ≡ b
area_both a b h k =
    let i = four (up_to a.xmin b.xmin) (up_to b.xmax a.xmax) (up_to a.ymin b.ymin) (up_to b.ymax a.ymax) h in
    let j = four (up_to b.xmin a.xmin) (up_to a.xmax b.xmax) (up_to b.ymin a.ymin) (up_to a.ymax b.ymax) k in
    let p = up_to-both a.xmin b.xmin i.0 j.0 in
    let q = up_to-both a.xmax b.xmax j.1 i.1 in
    let r = up_to-both a.ymin b.ymin i.2 j.2 in
    let s = up_to-both a.ymax b.ymax j.3 i.3 in
    λ n. record { xmin = p n; xmax = q n; ymin = r n; ymax = s n }

end_both : (a b : Ratio) (i j : Bool) → (before a b || (up_to a b && (i || not j))) ≡ true → (before b a || (up_to b a && (j || not i))) ≡ true → (a ≡ b) × (i ≡ j)
end_both a b i j h k =
    let e = before-neither a b (grind (arith, h, k, before-back a b, before-back b a)) (grind (arith, h, k, before-back a b, before-back b a)) in
    (e, flag i j (grind (arith, h, k, before-back a b, before-back b a)) (grind (arith, h, k, before-back a b, before-back b a)))
  where
    flag : (i j : Bool) → (i || not j) ≡ true → (j || not i) ≡ true → i ≡ j
    flag true true h k = refl
    flag false false h k = refl
    flag true false h k = sym k
    flag false true h k = h

span_both : (s r : SpanOf) → is_inside s r ≡ true → is_inside r s ≡ true → s ≡ r
span_both s r h k =
    let i = and_parts _ _ h in
    let j = and_parts _ _ k in
    let l = end_both s.lower r.lower s.lower_inc r.lower_inc i.0 j.0 in
    let u = end_both r.upper s.upper s.upper_inc r.upper_inc i.1 j.1 in
    let p = l.0 in
    let q = sym u.0 in
    let v = l.1 in
    let w = u.1 in
    λ n. record { lower = p n; upper = q n; lower_inc = v n; upper_inc = w n }

part_both : {A : Type 0} (over : A → A → Bool) → ((x y : A) → over x y ≡ true → over y x ≡ true → x ≡ y) → (a b : Option A) → lies_in over a b ≡ true → lies_in over b a ≡ true → a ≡ b
part_both over f None None h k = refl
part_both over f None (Some y) h k = absurd (true≢false (sym k))
part_both over f (Some x) None h k = absurd (true≢false (sym h))
part_both over f (Some x) (Some y) h k = ap Some (f x y h k)

pub contains_both : (a b : BoxOf) → contains a b ≡ true → contains b a ≡ true → a ≡ b
unfolding contains
contains_both a b h k =
    let m = and_parts (lies_in area_over a.space b.space) (lies_in is_inside a.time b.time) h in
    let n = and_parts (lies_in area_over b.space a.space) (lies_in is_inside b.time a.time) k in
    let p = part_both area_over area_both a.space b.space m.0 n.0 in
    let q = part_both is_inside span_both a.time b.time m.1 n.1 in
    λ i. record { space = p i; time = q i }

pub one_box : (a b : BoxOf) → is_box a ≡ true → is_box b ≡ true → BoxContains a b → BoxContains b a → a ≡ b
one_box a b h k c d = contains_both a b (is_contains a b k c) (is_contains b a h d)
