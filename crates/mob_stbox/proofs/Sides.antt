-- The relations of areas and spans, by their sides.
use Rattle.std.{specs.Prelude.{◌≡◌, ◌↔◌, Bool, true, false, cond, refl, ◌||◌, ◌&&◌, not, IsTrue}, proofs.lemmas.Bool.{and_parts, and_from}, proofs.Common.{arith, sym, ◌∙◌, true≢false}}
use Rattle.mob_ratio.{specs.Ratio.{Ratio}, specs.Order.{before, up_to, smaller, greater}}
use Rattle.mob_ratio.proofs.Order.{before-self, before-back, before-neither, not-up_to-le, smaller_left, smaller_right, greater_left, greater_right, le-test, up_to-trans, up_to-self, greater_least}
use Rattle.mob_span.{specs.Span.{SpanOf, InSpan, has, has_instant}, specs.Meet.{meet_of, starts_before, ends_before}, specs.Neighbours.{is_inside}}
use Rattle.mob_span.{proofs.SpanLemmas.{has_exact, some_instant, instant_some, meet_some}, proofs.Insides.{inside_has}}
use Rattle.mob_plane.specs.declared.point.Point.{Point}
use Rattle.mob_stbox.{specs.Areas.{InArea, in_area, is_area, areas_meet, area_over, area_cover, area_between, IsAreaOver}, specs.Boxes.{span_cover}, specs.declared.area.Area.{Area}}

pub four : (a b c d : Bool) → (a && b && (c && d)) ≡ true → (a ≡ true) × (b ≡ true) × (c ≡ true) × (d ≡ true)
four a b c d h = let k = and_parts (a && b) (c && d) h in let l = and_parts a b k.0 in let r = and_parts c d k.1 in (l.0, l.1, r.0, r.1)

pub all_four : (a b c d : Bool) → a ≡ true → b ≡ true → c ≡ true → d ≡ true → (a && b && (c && d)) ≡ true
all_four a b c d h k l m = rw (h, k, l, m) refl

-- the test of membership is exact
pub in_area_exact : (a : Area) (p : Point) → IsTrue (in_area a p) ↔ InArea a p
in_area_exact a p = (
  λ h. let k = four (up_to a.xmin p.x) (up_to p.x a.xmax) (up_to a.ymin p.y) (up_to p.y a.ymax) h in record {
    from_west = not-up_to-le a.xmin p.x k.0;
    to_east = not-up_to-le p.x a.xmax k.1;
    from_south = not-up_to-le a.ymin p.y k.2;
    to_north = not-up_to-le p.y a.ymax k.3;
  },
  λ h. all_four (up_to a.xmin p.x) (up_to p.x a.xmax) (up_to a.ymin p.y) (up_to p.y a.ymax) (le-test a.xmin p.x h.from_west) (le-test p.x a.xmax h.to_east) (le-test a.ymin p.y h.from_south) (le-test p.y a.ymax h.to_north),
)

-- on one axis: two intervals share the greater of their lower ends, or no number
pub record IsShared (al ah bl bh x : Ratio) : Type 0 where
  pub from_a : up_to al x ≡ true
  pub to_a : up_to x ah ≡ true
  pub from_b : up_to bl x ≡ true
  pub to_b : up_to x bh ≡ true

axis_shared : (al ah bl bh : Ratio) (b : Bool) → before al bl ≡ b → up_to al ah ≡ true → up_to bl bh ≡ true → up_to al bh ≡ true → up_to bl ah ≡ true → IsShared al ah bl bh (cond b bl al)
axis_shared al ah bl bh true e h k l m = record { from_a = grind (arith, before-back al bl e); to_a = m; from_b = up_to-self bl; to_b = k }
axis_shared al ah bl bh false e h k l m = record { from_a = up_to-self al; to_a = h; from_b = grind (arith, e); to_b = l }

-- an area has a point exactly if no smallest coordinate is above its greatest
pub area_has_point : (a : Area) → (is_area a ≡ true) ↔ ((p : Point) × InArea a p)
area_has_point a = (
  λ h.
      let k = and_parts (up_to a.xmin a.xmax) (up_to a.ymin a.ymax) h in
      (record { x = a.xmin; y = a.ymin }, (in_area_exact a (record { x = a.xmin; y = a.ymin })).0 (all_four (up_to a.xmin a.xmin) (up_to a.xmin a.xmax) (up_to a.ymin a.ymin) (up_to a.ymin a.ymax) (up_to-self a.xmin) k.0 (up_to-self a.ymin) k.1)),
  λ m.
      let k = four (up_to a.xmin m.0.x) (up_to m.0.x a.xmax) (up_to a.ymin m.0.y) (up_to m.0.y a.ymax) ((in_area_exact a m.0).1 m.1) in
      and_from (up_to a.xmin a.xmax) (up_to a.ymin a.ymax) (up_to-trans a.xmin m.0.x a.xmax k.0 k.1) (up_to-trans a.ymin m.0.y a.ymax k.2 k.3),
)

-- two areas share a point exactly if on each axis neither lies wholly on one side of the other
pub areas_meet_exact : (a b : Area) → is_area a ≡ true → is_area b ≡ true → (areas_meet a b ≡ true) ↔ ((p : Point) × InArea a p × InArea b p)
areas_meet_exact a b h k = (
  λ m.
      let i = and_parts (up_to a.xmin a.xmax) (up_to a.ymin a.ymax) h in
      let j = and_parts (up_to b.xmin b.xmax) (up_to b.ymin b.ymax) k in
      let n = four (up_to a.xmin b.xmax) (up_to b.xmin a.xmax) (up_to a.ymin b.ymax) (up_to b.ymin a.ymax) m in
      let x = axis_shared a.xmin a.xmax b.xmin b.xmax (before a.xmin b.xmin) refl i.0 j.0 n.0 n.1 in
      let y = axis_shared a.ymin a.ymax b.ymin b.ymax (before a.ymin b.ymin) refl i.1 j.1 n.2 n.3 in
      let p : Point = record { x = greater a.xmin b.xmin; y = greater a.ymin b.ymin } in (
        p,
        (in_area_exact a p).0 (all_four (up_to a.xmin p.x) (up_to p.x a.xmax) (up_to a.ymin p.y) (up_to p.y a.ymax) x.from_a x.to_a y.from_a y.to_a),
        (in_area_exact b p).0 (all_four (up_to b.xmin p.x) (up_to p.x b.xmax) (up_to b.ymin p.y) (up_to p.y b.ymax) x.from_b x.to_b y.from_b y.to_b),
      ),
  λ m.
      let p = m.0 in
      let i = four (up_to a.xmin p.x) (up_to p.x a.xmax) (up_to a.ymin p.y) (up_to p.y a.ymax) ((in_area_exact a p).1 m.1) in
      let j = four (up_to b.xmin p.x) (up_to p.x b.xmax) (up_to b.ymin p.y) (up_to p.y b.ymax) ((in_area_exact b p).1 m.2) in
      all_four (up_to a.xmin b.xmax) (up_to b.xmin a.xmax) (up_to a.ymin b.ymax) (up_to b.ymin a.ymax) (up_to-trans a.xmin p.x b.xmax i.0 j.1) (up_to-trans b.xmin p.x a.xmax j.0 i.1) (up_to-trans a.ymin p.y b.ymax i.2 j.3) (up_to-trans b.ymin p.y a.ymax j.2 i.3),
)

-- a point in an area is in an area that contains it
pub in_over : (a b : Area) (p : Point) → area_over a b ≡ true → InArea b p → InArea a p
in_over a b p h k =
    let i = four (up_to a.xmin b.xmin) (up_to b.xmax a.xmax) (up_to a.ymin b.ymin) (up_to b.ymax a.ymax) h in
    let j = four (up_to b.xmin p.x) (up_to p.x b.xmax) (up_to b.ymin p.y) (up_to p.y b.ymax) ((in_area_exact b p).1 k) in
    (in_area_exact a p).0 (all_four (up_to a.xmin p.x) (up_to p.x a.xmax) (up_to a.ymin p.y) (up_to p.y a.ymax) (up_to-trans a.xmin b.xmin p.x i.0 j.0) (up_to-trans p.x b.xmax a.xmax j.1 i.1) (up_to-trans a.ymin b.ymin p.y i.2 j.2) (up_to-trans p.y b.ymax a.ymax j.3 i.3))

-- an area lies in another exactly if each of its points does
pub area_over_exact : (a b : Area) → is_area b ≡ true → (area_over a b ≡ true) ↔ ((p : Point) → InArea b p → InArea a p)
area_over_exact a b h = (
  λ k p i. in_over a b p k i,
  λ f.
      let s = and_parts (up_to b.xmin b.xmax) (up_to b.ymin b.ymax) h in
      let p : Point = record { x = b.xmin; y = b.ymin } in
      let q : Point = record { x = b.xmax; y = b.ymax } in
      let i = (in_area_exact a p).1 (f p ((in_area_exact b p).0 (all_four (up_to b.xmin b.xmin) (up_to b.xmin b.xmax) (up_to b.ymin b.ymin) (up_to b.ymin b.ymax) (up_to-self b.xmin) s.0 (up_to-self b.ymin) s.1))) in
      let j = (in_area_exact a q).1 (f q ((in_area_exact b q).0 (all_four (up_to b.xmin b.xmax) (up_to b.xmax b.xmax) (up_to b.ymin b.ymax) (up_to b.ymax b.ymax) s.0 (up_to-self b.xmax) s.1 (up_to-self b.ymax)))) in
      let k = four (up_to a.xmin b.xmin) (up_to b.xmin a.xmax) (up_to a.ymin b.ymin) (up_to b.ymin a.ymax) i in
      let l = four (up_to a.xmin b.xmax) (up_to b.xmax a.xmax) (up_to a.ymin b.ymax) (up_to b.ymax a.ymax) j in
      all_four (up_to a.xmin b.xmin) (up_to b.xmax a.xmax) (up_to a.ymin b.ymin) (up_to b.ymax a.ymax) k.0 l.1 k.2 l.3,
)

pub area_over_self : (a : Area) → area_over a a ≡ true
area_over_self a = all_four (up_to a.xmin a.xmin) (up_to a.xmax a.xmax) (up_to a.ymin a.ymin) (up_to a.ymax a.ymax) (up_to-self a.xmin) (up_to-self a.xmax) (up_to-self a.ymin) (up_to-self a.ymax)

pub area_over_trans : (a b c : Area) → area_over a b ≡ true → area_over b c ≡ true → area_over a c ≡ true
area_over_trans a b c h k =
    let i = four (up_to a.xmin b.xmin) (up_to b.xmax a.xmax) (up_to a.ymin b.ymin) (up_to b.ymax a.ymax) h in
    let j = four (up_to b.xmin c.xmin) (up_to c.xmax b.xmax) (up_to b.ymin c.ymin) (up_to c.ymax b.ymax) k in
    all_four (up_to a.xmin c.xmin) (up_to c.xmax a.xmax) (up_to a.ymin c.ymin) (up_to c.ymax a.ymax) (up_to-trans a.xmin b.xmin c.xmin i.0 j.0) (up_to-trans c.xmax b.xmax a.xmax j.1 i.1) (up_to-trans a.ymin b.ymin c.ymin i.2 j.2) (up_to-trans c.ymax b.ymax a.ymax j.3 i.3)

-- whatever meets an area meets an area that contains it
pub area_over_meets : (a b q : Area) → area_over a b ≡ true → areas_meet b q ≡ true → areas_meet a q ≡ true
area_over_meets a b q h k =
    let i = four (up_to a.xmin b.xmin) (up_to b.xmax a.xmax) (up_to a.ymin b.ymin) (up_to b.ymax a.ymax) h in
    let j = four (up_to b.xmin q.xmax) (up_to q.xmin b.xmax) (up_to b.ymin q.ymax) (up_to q.ymin b.ymax) k in
    all_four (up_to a.xmin q.xmax) (up_to q.xmin a.xmax) (up_to a.ymin q.ymax) (up_to q.ymin a.ymax) (up_to-trans a.xmin b.xmin q.xmax i.0 j.0) (up_to-trans q.xmin b.xmax a.xmax j.1 i.1) (up_to-trans a.ymin b.ymin q.ymax i.2 j.2) (up_to-trans q.ymin b.ymax a.ymax j.3 i.3)

smaller_least : (s t u : Ratio) → up_to u s ≡ true → up_to u t ≡ true → up_to u (smaller s t) ≡ true
smaller_least s t u h k = grind arith

-- the bounding box of two points
pub between_is_area : (p q : Point) → is_area (area_between p q) ≡ true
between_is_area p q = and_from (up_to (smaller p.x q.x) (greater p.x q.x)) (up_to (smaller p.y q.y) (greater p.y q.y)) (up_to-trans (smaller p.x q.x) p.x (greater p.x q.x) (smaller_left p.x q.x) (greater_left p.x q.x)) (up_to-trans (smaller p.y q.y) p.y (greater p.y q.y) (smaller_left p.y q.y) (greater_left p.y q.y))

-- an area that contains two points contains their bounding box
pub between_least : (p q : Point) (b : Area) → InArea b p → InArea b q → area_over b (area_between p q) ≡ true
between_least p q b h k =
    let i = four (up_to b.xmin p.x) (up_to p.x b.xmax) (up_to b.ymin p.y) (up_to p.y b.ymax) ((in_area_exact b p).1 h) in
    let j = four (up_to b.xmin q.x) (up_to q.x b.xmax) (up_to b.ymin q.y) (up_to q.y b.ymax) ((in_area_exact b q).1 k) in
    all_four (up_to b.xmin (smaller p.x q.x)) (up_to (greater p.x q.x) b.xmax) (up_to b.ymin (smaller p.y q.y)) (up_to (greater p.y q.y) b.ymax) (smaller_least p.x q.x b.xmin i.0 j.0) (greater_least p.x q.x b.xmax i.1 j.1) (smaller_least p.y q.y b.ymin i.2 j.2) (greater_least p.y q.y b.ymax i.3 j.3)

pub between_is_over : (p q : Point) → IsAreaOver p q (area_between p q)
between_is_over p q = let a = area_between p q in record {
  first = (in_area_exact a p).0 (all_four (up_to a.xmin p.x) (up_to p.x a.xmax) (up_to a.ymin p.y) (up_to p.y a.ymax) (smaller_left p.x q.x) (greater_left p.x q.x) (smaller_left p.y q.y) (greater_left p.y q.y));
  second = (in_area_exact a q).0 (all_four (up_to a.xmin q.x) (up_to q.x a.xmax) (up_to a.ymin q.y) (up_to q.y a.ymax) (smaller_right p.x q.x) (greater_right p.x q.x) (smaller_right p.y q.y) (greater_right p.y q.y));
  least = λ b h k r m. in_over b a r (between_least p q b h k) m;
}

smaller_is : (s t : Ratio) → up_to s t ≡ true → smaller s t ≡ s
smaller_is s t h = let e : before t s ≡ false = grind (arith, h) in rw e refl

greater_is : (s t : Ratio) (b : Bool) → before s t ≡ b → up_to s t ≡ true → cond b t s ≡ t
greater_is s t true e h = refl
greater_is s t false e h = before-neither s t e (grind (arith, h))

-- an area is the bounding box of its smallest corner and its greatest
pub between_again : (a : Area) → is_area a ≡ true → area_between (record { x = a.xmin; y = a.ymin }) (record { x = a.xmax; y = a.ymax }) ≡ a
between_again a h =
    let k = and_parts (up_to a.xmin a.xmax) (up_to a.ymin a.ymax) h in
    let p = smaller_is a.xmin a.xmax k.0 in
    let q = greater_is a.xmin a.xmax (before a.xmin a.xmax) refl k.0 in
    let r = smaller_is a.ymin a.ymax k.1 in
    let s = greater_is a.ymin a.ymax (before a.ymin a.ymax) refl k.1 in
    λ i. record { xmin = p i; xmax = q i; ymin = r i; ymax = s i }

pub area_cover_left : (a b : Area) → area_over (area_cover a b) a ≡ true
area_cover_left a b = let c = area_cover a b in all_four (up_to c.xmin a.xmin) (up_to a.xmax c.xmax) (up_to c.ymin a.ymin) (up_to a.ymax c.ymax) (smaller_left a.xmin b.xmin) (greater_left a.xmax b.xmax) (smaller_left a.ymin b.ymin) (greater_left a.ymax b.ymax)

pub area_cover_right : (a b : Area) → area_over (area_cover a b) b ≡ true
area_cover_right a b = let c = area_cover a b in all_four (up_to c.xmin b.xmin) (up_to b.xmax c.xmax) (up_to c.ymin b.ymin) (up_to b.ymax c.ymax) (smaller_right a.xmin b.xmin) (greater_right a.xmax b.xmax) (smaller_right a.ymin b.ymin) (greater_right a.ymax b.ymax)

pub area_cover_least : (a b d : Area) → area_over d a ≡ true → area_over d b ≡ true → area_over d (area_cover a b) ≡ true
area_cover_least a b d h k =
    let i = four (up_to d.xmin a.xmin) (up_to a.xmax d.xmax) (up_to d.ymin a.ymin) (up_to a.ymax d.ymax) h in
    let j = four (up_to d.xmin b.xmin) (up_to b.xmax d.xmax) (up_to d.ymin b.ymin) (up_to b.ymax d.ymax) k in
    let c = area_cover a b in
    all_four (up_to d.xmin c.xmin) (up_to c.xmax d.xmax) (up_to d.ymin c.ymin) (up_to c.ymax d.ymax) (smaller_least a.xmin b.xmin d.xmin i.0 j.0) (greater_least a.xmax b.xmax d.xmax i.1 j.1) (smaller_least a.ymin b.ymin d.ymin i.2 j.2) (greater_least a.ymax b.ymax d.ymax i.3 j.3)

-- whatever contains an area is one
pub over_is_area : (a b : Area) → area_over a b ≡ true → is_area b ≡ true → is_area a ≡ true
over_is_area a b h k =
    let i = four (up_to a.xmin b.xmin) (up_to b.xmax a.xmax) (up_to a.ymin b.ymin) (up_to b.ymax a.ymax) h in
    let s = and_parts (up_to b.xmin b.xmax) (up_to b.ymin b.ymax) k in
    and_from (up_to a.xmin a.xmax) (up_to a.ymin a.ymax) (up_to-trans a.xmin b.xmin a.xmax i.0 (up_to-trans b.xmin b.xmax a.xmax s.0 i.1)) (up_to-trans a.ymin b.ymin a.ymax i.2 (up_to-trans b.ymin b.ymax a.ymax s.1 i.3))

-- spans: an instant in a span is in a span that contains it
pub in_inside : (s r : SpanOf) (t : Ratio) → is_inside s r ≡ true → has r t ≡ true → has s t ≡ true
in_inside s r t h k = by_test (has s t) refl
  where
    by_test : (b : Bool) → has s t ≡ b → has s t ≡ true
    by_test true e = e
    by_test false e = absurd (true≢false (sym k ∙ inside_has s r t h e))

-- two spans share an instant exactly if their intersection has one
pub spans_meet_exact : (s r : SpanOf) → (has_instant (meet_of s r) ≡ true) ↔ ((t : Ratio) × InSpan s t × InSpan r t)
spans_meet_exact s r = (
  λ h. let m = (meet_some s r).0 h in let k = and_parts (has s m.0) (has r m.0) m.1 in (m.0, (has_exact s m.0).0 k.0, (has_exact r m.0).0 k.1),
  λ m. (meet_some s r).1 (m.0, and_from (has s m.0) (has r m.0) ((has_exact s m.0).1 m.1) ((has_exact r m.0).1 m.2)),
)

-- whatever meets a span meets a span that contains it
pub inside_meets : (a b q : SpanOf) → is_inside a b ≡ true → has_instant (meet_of b q) ≡ true → has_instant (meet_of a q) ≡ true
inside_meets a b q h k = let m = (meet_some b q).0 k in let i = and_parts (has b m.0) (has q m.0) m.1 in (meet_some a q).1 (m.0, and_from (has a m.0) (has q m.0) (in_inside a b m.0 h i.0) i.1)

pub inside_some : (s r : SpanOf) → is_inside s r ≡ true → has_instant r ≡ true → has_instant s ≡ true
inside_some s r h k = let m = some_instant r k in instant_some s m.0 (in_inside s r m.0 h m.1)

low_left : (l m : Ratio) (i j b : Bool) → (before m l || (up_to m l && j && not i)) ≡ b → (before (cond b m l) l || (up_to (cond b m l) l && (cond b j i || not i))) ≡ true
low_left l m i j true h = grind (arith, h)
low_left l m i j false h = grind (arith, before-self l)

low_right : (l m : Ratio) (i j b : Bool) → (before m l || (up_to m l && j && not i)) ≡ b → (before (cond b m l) m || (up_to (cond b m l) m && (cond b j i || not j))) ≡ true
low_right l m i j true h = grind (arith, before-self m)
low_right l m i j false h = grind (arith, h)

high_left : (u w : Ratio) (i j b : Bool) → (before u w || (up_to u w && not i && j)) ≡ b → (before u (cond b w u) || (up_to u (cond b w u) && (cond b j i || not i))) ≡ true
high_left u w i j true h = grind (arith, h)
high_left u w i j false h = grind (arith, before-self u)

high_right : (u w : Ratio) (i j b : Bool) → (before u w || (up_to u w && not i && j)) ≡ b → (before w (cond b w u) || (up_to w (cond b w u) && (cond b j i || not j))) ≡ true
high_right u w i j true h = grind (arith, before-self w)
high_right u w i j false h = grind (arith, h)

pub span_cover_left : (s r : SpanOf) → is_inside (span_cover s r) s ≡ true
span_cover_left s r = and_from _ _ (low_left s.lower r.lower s.lower_inc r.lower_inc (starts_before r s) refl) (high_left s.upper r.upper s.upper_inc r.upper_inc (ends_before s r) refl)

pub span_cover_right : (s r : SpanOf) → is_inside (span_cover s r) r ≡ true
span_cover_right s r = and_from _ _ (low_right s.lower r.lower s.lower_inc r.lower_inc (starts_before r s) refl) (high_right s.upper r.upper s.upper_inc r.upper_inc (ends_before s r) refl)

pub span_cover_least : (s r d : SpanOf) → is_inside d s ≡ true → is_inside d r ≡ true → is_inside d (span_cover s r) ≡ true
span_cover_least s r d h k =
    let m = and_parts _ _ h in
    let n = and_parts _ _ k in
    and_from _ _ (low_of (starts_before r s) m.0 n.0) (high_of (ends_before s r) m.1 n.1)
  where
    low_of : (b : Bool) → (before d.lower s.lower || (up_to d.lower s.lower && (d.lower_inc || not s.lower_inc))) ≡ true → (before d.lower r.lower || (up_to d.lower r.lower && (d.lower_inc || not r.lower_inc))) ≡ true
        → (before d.lower (cond b r.lower s.lower) || (up_to d.lower (cond b r.lower s.lower) && (d.lower_inc || not (cond b r.lower_inc s.lower_inc)))) ≡ true
    low_of true h k = k
    low_of false h k = h

    high_of : (b : Bool) → (before s.upper d.upper || (up_to s.upper d.upper && (d.upper_inc || not s.upper_inc))) ≡ true → (before r.upper d.upper || (up_to r.upper d.upper && (d.upper_inc || not r.upper_inc))) ≡ true
        → (before (cond b r.upper s.upper) d.upper || (up_to (cond b r.upper s.upper) d.upper && (d.upper_inc || not (cond b r.upper_inc s.upper_inc)))) ≡ true
    high_of true h k = k
    high_of false h k = h

pub span_cover_some : (s r : SpanOf) → has_instant s ≡ true → has_instant (span_cover s r) ≡ true
span_cover_some s r h = inside_some (span_cover s r) s (span_cover_left s r) h
