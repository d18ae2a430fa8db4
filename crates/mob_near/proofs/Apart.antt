-- Points in two rectangles, and how far they are from each other.
use Rattle.std.{specs.Prelude.{cond, not, ◌||◌}, proofs.Common.{◌≡◌, Bool, true, false, true≢false, pos, [], arith, refl, sym, ap, ◌∙◌, subst}}
use Rattle.mob_ratio.{specs.Ratio.{Ratio, ◌+ℚ◌, ◌-ℚ◌, ◌*ℚ◌, ◌<ℚ◌, ◌≤ℚ◌}, specs.Line.{line_at}, specs.Order.{before, up_to}, specs.Sign.{nil}, proofs.Between.{within}}
use Rattle.mob_ratio.{proofs.Clear.{clear2, clear4, clear5, cleared}, proofs.Field.{le_trans, le_of_lt, le_of_eq, lt_le, le_lt, lt_mul_pos, mul_comm, add_comm}, proofs.IntRing.{linear}}
use Rattle.mob_ratio.{proofs.LineAt.{line_at-short}, proofs.Ring.{lit, ◌⊗◌}, proofs.Rings.{ring_ℚ}, proofs.Order.{before-back, before-lt, le-up_to, lt-before, not-up_to-le, up_to-trans}}
use Rattle.mob_ratio.proofs.Convex.{square_le, le_mul_pos, sub_le}
use Rattle.mob_plane.specs.declared.point.Point.{Point}
use Rattle.mob_span.{specs.Span.{SpanOf, has}, specs.Neighbours.{is_inside}, proofs.Insides.{inside_has}, proofs.SpanLemmas.{has_upto_lower, has_upto_upper}}
use Rattle.mob_slice.{specs.Lines.{plane_value_of}, specs.Sides.{SideOf, Moves, Stays, HoldsSide, side_at}, specs.declared.line.PlaneLine.{PlaneLine}}
use Rattle.mob_legs.{specs.Covers.{IsCovered, CoversSide, is_beyond, cover_gap}, specs.declared.covers.Cover.{Cover}}
use Rattle.mob_near.specs.Distances.{distance_squared}

-- ---- on one axis

-- a summand is at most the sum if the other one is not negative
on_top : (a b : Ratio) → nil ≤ℚ b → a ≤ℚ (a +ℚ b)
on_top = clear2 _ (λ D x y p h. let h' = simp cleared at h in simp cleared (omega (arith, linear)))

-- more than d apart: the square is more than that of d
square_above : (d u : Ratio) → nil ≤ℚ d → d <ℚ u → (d *ℚ d) <ℚ (u *ℚ u)
square_above d u h l =
    let one : (d *ℚ u) <ℚ (u *ℚ u) = lt_mul_pos d u u (le_lt nil d u h l) l in
    let two : (d *ℚ d) ≤ℚ (u *ℚ d) = le_mul_pos d u d h (le_of_lt d u l) in
    le_lt (d *ℚ d) (d *ℚ u) (u *ℚ u) (le_trans (d *ℚ d) (u *ℚ d) (d *ℚ u) two (le_of_eq _ _ (mul_comm u d))) one

past : (b d c p q : Ratio) → (b +ℚ d) <ℚ c → p ≤ℚ b → c ≤ℚ q → d <ℚ (q -ℚ p)
past = clear5 _ (λ D b d c p q z h i j. let h' = simp cleared at h in let i' = simp cleared at i in let j' = simp cleared at j in simp cleared (omega (arith, linear)))

turned_square : (p q : Ratio) → (q -ℚ p) *ℚ (q -ℚ p) ≡ (p -ℚ q) *ℚ (p -ℚ q)
turned_square = clear2 _ (λ D x y p. simp cleared (omega (arith, linear)))

apart_up : (a d x y : Ratio) → a ≤ℚ x → y ≤ℚ d → (a -ℚ d) ≤ℚ (x -ℚ y)
apart_up = clear4 _ (λ D a d x y z h k. let h' = simp cleared at h in let k' = simp cleared at k in simp cleared (omega (arith, linear)))

square_up : (g z : Ratio) → nil ≤ℚ g → g ≤ℚ z → (g *ℚ g) ≤ℚ (z *ℚ z)
square_up g z h k = le_trans (g *ℚ g) (z *ℚ g) (z *ℚ z) (le_mul_pos g z g h k) (subst (λ w. w ≤ℚ (z *ℚ z)) (mul_comm g z) (le_mul_pos g z z (le_trans nil g z h k) k))

-- the square of the distance of two ranges is at most that of two numbers of them
nil_square : (z : Ratio) → (nil *ℚ nil) ≤ℚ (z *ℚ z)
nil_square z = subst (λ w. w ≤ℚ (z *ℚ z)) (sym (ring_ℚ [] (lit (pos 0) ⊗ lit (pos 0)) (lit (pos 0)) refl)) (square_le z)

range_below : (a b c d x y : Ratio) → a ≤ℚ x → x ≤ℚ b → c ≤ℚ y → y ≤ℚ d → (p q : Bool) → before b c ≡ p → before d a ≡ q
    → (cond p (c -ℚ b) (cond q (a -ℚ d) nil) *ℚ cond p (c -ℚ b) (cond q (a -ℚ d) nil)) ≤ℚ ((x -ℚ y) *ℚ (x -ℚ y))
range_below a b c d x y ax xb cy yd true q e f = subst (λ z. ((c -ℚ b) *ℚ (c -ℚ b)) ≤ℚ z) (turned_square x y) (square_up (c -ℚ b) (y -ℚ x) (sub_le b c (le_of_lt b c (before-lt b c e))) (apart_up c b y x cy xb))
range_below a b c d x y ax xb cy yd false true e f = square_up (a -ℚ d) (x -ℚ y) (sub_le d a (le_of_lt d a (before-lt d a f))) (apart_up a d x y ax yd)
range_below a b c d x y ax xb cy yd false false e f = nil_square (x -ℚ y)

-- ---- in the plane
module _ (c e : Cover) (p q : Point) (i : IsCovered c p) (j : IsCovered e q) where
  add_both : (a b c d : Ratio) → a ≤ℚ c → b ≤ℚ d → (a +ℚ b) ≤ℚ (c +ℚ d)
  add_both = clear4 _ (λ D a b c d z h k. let h' = simp cleared at h in let k' = simp cleared at k in simp cleared (omega (arith, linear)))

  -- their squared distance is at least that of the rectangles
  pub gap_below : up_to (cover_gap c e) (distance_squared p q) ≡ true
  gap_below = ap not (le-up_to (cover_gap c e) (distance_squared p q) (add_both _ _ _ _
      (range_below c.xmin c.xmax e.xmin e.xmax p.x q.x (not-up_to-le _ _ i.from_left) (not-up_to-le _ _ i.to_right) (not-up_to-le _ _ j.from_left) (not-up_to-le _ _ j.to_right) (before c.xmax e.xmin) (before e.xmax c.xmin) refl refl)
      (range_below c.ymin c.ymax e.ymin e.ymax p.y q.y (not-up_to-le _ _ i.from_low) (not-up_to-le _ _ i.to_high) (not-up_to-le _ _ j.from_low) (not-up_to-le _ _ j.to_high) (before c.ymax e.ymin) (before e.ymax c.ymin) refl refl)))

  module _ (d : Ratio) (hd : nil ≤ℚ d) where
    by_x : (d *ℚ d) <ℚ ((p.x -ℚ q.x) *ℚ (p.x -ℚ q.x)) → up_to (distance_squared p q) (d *ℚ d) ≡ false
    by_x h = ap not (lt-before (d *ℚ d) (distance_squared p q) (lt_le (d *ℚ d) ((p.x -ℚ q.x) *ℚ (p.x -ℚ q.x)) (distance_squared p q) h (on_top _ _ (square_le (p.y -ℚ q.y)))))

    by_y : (d *ℚ d) <ℚ ((p.y -ℚ q.y) *ℚ (p.y -ℚ q.y)) → up_to (distance_squared p q) (d *ℚ d) ≡ false
    by_y h = ap not (lt-before (d *ℚ d) (distance_squared p q) (lt_le (d *ℚ d) ((p.y -ℚ q.y) *ℚ (p.y -ℚ q.y)) (distance_squared p q) h (le_trans _ _ _ (on_top ((p.y -ℚ q.y) *ℚ (p.y -ℚ q.y)) ((p.x -ℚ q.x) *ℚ (p.x -ℚ q.x)) (square_le (p.x -ℚ q.x))) (le_of_eq _ _ (add_comm ((p.y -ℚ q.y) *ℚ (p.y -ℚ q.y)) ((p.x -ℚ q.x) *ℚ (p.x -ℚ q.x)))))))

    by_side : (s t u v : Bool) → before (c.xmax +ℚ d) e.xmin ≡ s → before (e.xmax +ℚ d) c.xmin ≡ t → before (c.ymax +ℚ d) e.ymin ≡ u → before (e.ymax +ℚ d) c.ymin ≡ v → ((s || t) || (u || v)) ≡ true → up_to (distance_squared p q) (d *ℚ d) ≡ false
    by_side true t u v a b f g h = by_x (subst (λ z. (d *ℚ d) <ℚ z) (turned_square p.x q.x) (square_above d (q.x -ℚ p.x) hd (past c.xmax d e.xmin p.x q.x (before-lt _ _ a) (not-up_to-le _ _ i.to_right) (not-up_to-le _ _ j.from_left))))
    by_side false true u v a b f g h = by_x (square_above d (p.x -ℚ q.x) hd (past e.xmax d c.xmin q.x p.x (before-lt _ _ b) (not-up_to-le _ _ j.to_right) (not-up_to-le _ _ i.from_left)))
    by_side false false true v a b f g h = by_y (subst (λ z. (d *ℚ d) <ℚ z) (turned_square p.y q.y) (square_above d (q.y -ℚ p.y) hd (past c.ymax d e.ymin p.y q.y (before-lt _ _ f) (not-up_to-le _ _ i.to_high) (not-up_to-le _ _ j.from_low))))
    by_side false false false true a b f g h = by_y (square_above d (p.y -ℚ q.y) hd (past e.ymax d c.ymin q.y p.y (before-lt _ _ g) (not-up_to-le _ _ j.to_high) (not-up_to-le _ _ i.from_low)))
    by_side false false false false a b f g h = absurd (cc h)

    -- in rectangles beyond d they are more than d apart
    pub far_points : is_beyond d c e ≡ true → up_to (distance_squared p q) (d *ℚ d) ≡ false
    far_points h = by_side _ _ _ _ refl refl refl refl h

-- ---- along a line
held_by : (lo hi x0 x1 l u t : Ratio) → up_to lo x0 ≡ true → up_to x0 hi ≡ true → up_to lo x1 ≡ true → up_to x1 hi ≡ true → up_to l t ≡ true → up_to t u ≡ true
    → (long rising : Bool) → before l u ≡ long → up_to x0 x1 ≡ rising → (up_to lo (line_at x0 x1 l u t) ≡ true) × (up_to (line_at x0 x1 l u t) hi ≡ true)
held_by lo hi x0 x1 l u t a b c d h k false rising e f = rw (line_at-short x0 x1 l u t e) (a, b)
held_by lo hi x0 x1 l u t a b c d h k true true e f =
    let w = (within x0 x1 l u t e h k).rising f in
    (up_to-trans lo x0 (line_at x0 x1 l u t) a w.0, up_to-trans (line_at x0 x1 l u t) x1 hi w.1 d)
held_by lo hi x0 x1 l u t a b c d h k true false e f =
    let w = (within x0 x1 l u t e h k).falling (grind (arith, f, before-back x1 x0)) in
    (up_to-trans lo x1 (line_at x0 x1 l u t) c w.0, up_to-trans (line_at x0 x1 l u t) x0 hi w.1 b)

pub still_has : (s r : SpanOf) (t : Ratio) → is_inside s r ≡ true → has r t ≡ true → has s t ≡ true
still_has s r t h k = by (has s t) refl
  where
    by : (b : Bool) → has s t ≡ b → has s t ≡ true
    by true e = e
    by false e = absurd (true≢false (sym k ∙ inside_has s r t h e))

-- at each instant of a piece the point of a side lies in the rectangle
pub covered_at : (c : Cover) (q : SideOf PlaneLine Point) (r : SpanOf) (t : Ratio) → HoldsSide (λ z. z.from) (λ z. z.to) q r → has r t ≡ true → CoversSide c q → IsCovered c (side_at plane_value_of q t)
covered_at c (Stays b) r t h k i = i
covered_at c (Moves s) r t h k i =
    let there = still_has s.span r t h.1 k in
    let low = has_upto_lower s.span t there in
    let high = has_upto_upper s.span t there in
    let x = held_by c.xmin c.xmax s.course.from.x s.course.to.x s.span.lower s.span.upper t i.0.from_left i.0.to_right i.1.from_left i.1.to_right low high _ _ refl refl in
    let y = held_by c.ymin c.ymax s.course.from.y s.course.to.y s.span.lower s.span.upper t i.0.from_low i.0.to_high i.1.from_low i.1.to_high low high _ _ refl refl in
    record { from_left = x.0; to_right = x.1; from_low = y.0; to_high = y.1 }
