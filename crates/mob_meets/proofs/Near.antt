-- Points that are near in the plane are near in each coordinate, so their boxes meet.
use Rattle.std.{specs.Prelude.{IfSome, is_some, cond, ◌||◌, ◌&&◌}, proofs.Common.{◌≡◌, true, inl, inr, Option, Some, None, arith, refl, sym, ap, ◌∙◌, subst}, proofs.lemmas.Bool.{and_parts}}
use Rattle.mob_ratio.{specs.Ratio.{Ratio, ◌+ℚ◌, ◌-ℚ◌, ◌*ℚ◌, ◌<ℚ◌, ◌≤ℚ◌}, specs.Order.{up_to}, specs.Sign.{nil}, proofs.IntRing.{linear}, proofs.Clear.{clear2, clear4, cleared}}
use Rattle.mob_ratio.{proofs.Field.{le_trans, le_of_lt, le_of_eq, cases_lt, not_both, lt_mul_pos, add_comm, mul_comm, le_lt, square-turned}, proofs.Order.{not-up_to-le}}
use Rattle.mob_ratio.proofs.Convex.{le_mul_pos, square_le}
use Rattle.mob_span.specs.Span.{SpanOf, InSpan}
use Rattle.mob_plane.specs.declared.point.Point.{Point}
use Rattle.mob_stbox.{specs.Areas.{InArea, is_area}, specs.Boxes.{BoxOf, BoxesMeet, InBox, both_have}, specs.Expansion.{expanded, moved_area, moved_space}, specs.declared.area.Area.{Area}}
use Rattle.mob_stbox.proofs.Sides.{area_has_point}
use Rattle.mob_lift.specs.Sometime.{IsSometime}
use Rattle.mob_near.specs.Distances.{are_within, distance_squared}
use Rattle.mob_meets.specs.Covers.{Covers}

-- a summand is at most the sum if the other one is not negative
part_le : (a b : Ratio) → nil ≤ℚ b → a ≤ℚ (a +ℚ b)
part_le = clear2 _ (λ D x y p h. let h' = simp cleared at h in simp cleared (omega (arith, linear)))

-- a number whose square is at most that of d is at most d
root_le : (u d : Ratio) → nil ≤ℚ d → (u *ℚ u) ≤ℚ (d *ℚ d) → u ≤ℚ d
root_le u d h k = elim (cases_lt d u) [
  | inl l ↦
      let above : nil <ℚ u = le_lt nil d u h l in
      let one : (d *ℚ u) <ℚ (u *ℚ u) = lt_mul_pos d u u above l in
      let two : (d *ℚ d) ≤ℚ (u *ℚ d) = le_mul_pos d u d h (le_of_lt d u l) in
      let three : (d *ℚ d) ≤ℚ (d *ℚ u) = le_trans (d *ℚ d) (u *ℚ d) (d *ℚ u) two (le_of_eq _ _ (mul_comm u d)) in
      absurd (not_both (d *ℚ d) (u *ℚ u) (le_lt (d *ℚ d) (d *ℚ u) (u *ℚ u) three one) k)
  | inr r ↦ r
]

-- on one coordinate: p at or past the side l, and q at most d before p
not_before_side : (l p q d : Ratio) → l ≤ℚ p → (p -ℚ q) ≤ℚ d → (l -ℚ d) ≤ℚ q
not_before_side = clear4 _ (λ D l p q d z a b. let a' = simp cleared at a in let b' = simp cleared at b in simp cleared (omega (arith, linear)))

not_past_side : (h p q d : Ratio) → p ≤ℚ h → (q -ℚ p) ≤ℚ d → q ≤ℚ (h +ℚ d)
not_past_side = clear4 _ (λ D h p q d z a b. let a' = simp cleared at a in let b' = simp cleared at b in simp cleared (omega (arith, linear)))

-- the difference in one coordinate is at most d both ways, if the sum of its square and a number
-- that is not negative is at most the square of d
pub record AreClose (p q d : Ratio) : Type 0 where
  pub forward : (p -ℚ q) ≤ℚ d
  pub back : (q -ℚ p) ≤ℚ d

close : (p q d o : Ratio) → nil ≤ℚ d → nil ≤ℚ o → ((p -ℚ q) *ℚ (p -ℚ q) +ℚ o) ≤ℚ (d *ℚ d) → AreClose p q d
close p q d o h k sum =
    let u = p -ℚ q in
    let square : (u *ℚ u) ≤ℚ (d *ℚ d) = le_trans (u *ℚ u) (u *ℚ u +ℚ o) (d *ℚ d) (part_le (u *ℚ u) o k) sum in
    record {
      forward = root_le u d h square;
      back = root_le (q -ℚ p) d h (le_trans _ (u *ℚ u) (d *ℚ d) (le_of_eq _ _ (square-turned p q)) square);
    }

pub near_second : (a : Area) (p q : Point) (d : Ratio) → are_within d p q ≡ true → InArea a p → InArea (moved_area a d) q
near_second a p q d h i =
    let w = and_parts _ _ h in
    let zero : nil ≤ℚ d = not-up_to-le nil d w.0 in
    let sum = not-up_to-le (distance_squared p q) (d *ℚ d) w.1 in
    let dx = p.x -ℚ q.x in
    let dy = p.y -ℚ q.y in
    let x = close p.x q.x d (dy *ℚ dy) zero (square_le dy) sum in
    let y = close p.y q.y d (dx *ℚ dx) zero (square_le dx) (le_trans (dy *ℚ dy +ℚ dx *ℚ dx) (dx *ℚ dx +ℚ dy *ℚ dy) (d *ℚ d) (le_of_eq _ _ (add_comm (dy *ℚ dy) (dx *ℚ dx))) sum) in
    record {
      from_west = not_before_side a.xmin p.x q.x d i.from_west x.forward;
      to_east = not_past_side a.xmax p.x q.x d i.to_east x.back;
      from_south = not_before_side a.ymin p.y q.y d i.from_south y.forward;
      to_north = not_past_side a.ymax p.y q.y d i.to_north y.back;
    }

-- a distance is the same both ways
within_back : (d : Ratio) (p q : Point) → are_within d p q ≡ true → are_within d q p ≡ true
within_back d p q h = subst (λ z. (up_to nil d && up_to z (d *ℚ d)) ≡ true) (sym (ap (λ x. x +ℚ (q.y -ℚ p.y) *ℚ (q.y -ℚ p.y)) (square-turned p.x q.x) ∙ ap (λ y. (p.x -ℚ q.x) *ℚ (p.x -ℚ q.x) +ℚ y) (square-turned p.y q.y))) h

pub near_first : (a : Area) (p q : Point) (d : Ratio) → are_within d p q ≡ true → InArea a q → InArea (moved_area a d) p
near_first a p q d h i = near_second a q p d (within_back d p q h) i

-- ---- boxes

-- a box that has space has an area
pub area_of : (o : Option Area) → is_some o ≡ true → (a : Area) × (o ≡ Some a)
area_of None h = absurd cc
area_of (Some a) h = (a, refl)

pub there_in : (place : Ratio → Option Point) (b : BoxOf) (t : Ratio) (p : Point) → Covers place b → place t ≡ Some p → InBox b t p
there_in place b t p h e = subst (λ o. IfSome o (λ q. InBox b t q)) e (h t)

both_times : (s r : Option SpanOf) (t : Ratio) → IfSome s (λ z. InSpan z t) → IfSome r (λ z. InSpan z t) → IfSome s (λ z. IfSome r (λ w. (u : Ratio) × InSpan z u × InSpan w u))
both_times None r t h k = tt
both_times (Some s) None t h k = tt
both_times (Some s) (Some r) t h k = (t, h, k)

-- a box over the first point meets one that has the first's place at an instant of its own time
over_meets : (b : BoxOf) (moved : Area) (time : Option SpanOf) (t : Ratio) (p : Point) → is_some b.space ≡ true → InBox b t p → InArea moved p → IfSome time (λ r. InSpan r t) → BoxesMeet b (record { space = Some moved; time = time })
over_meets b moved time t p s i there at =
    let x = area_of b.space s in
    let inx : InArea x.0 p = subst (λ o. IfSome o (λ a. InArea a p)) x.1 i.in_space in
    record {
      share = ap (λ o. (is_some o && true) || both_have b.time time) x.1;
      in_space = subst (λ o. IfSome o (λ a. (r : Point) × InArea a r × InArea moved r)) (sym x.1) (p, inx, there);
      in_time = both_times b.time time t i.in_time at;
    }

pub boxes_second : (one other : Ratio → Option Point) (c : BoxOf) (d : Ratio) → Covers other c → is_some c.space ≡ true → IsSometime (λ p q. are_within d p q ≡ true) one other
    → (wide : BoxOf) × (expanded c d ≡ Some wide) × ((b : BoxOf) → Covers one b → is_some b.space ≡ true → BoxesMeet b wide)
boxes_second one other c d k sc (t, p, q, ep, eq, near) =
    let y = area_of c.space sc in
    let i = there_in other c t q k eq in
    let moved = moved_area y.0 d in
    let wide : BoxOf = record { space = Some moved; time = c.time } in
    let iny : InArea y.0 q = subst (λ o. IfSome o (λ a. InArea a q)) y.1 i.in_space in
    let there : InArea moved p = near_first y.0 p q d near iny in
    let stands : is_area moved ≡ true = (area_has_point moved).1 (p, there) in (
      wide,
      ap (λ o. moved_space o c.time d) y.1 ∙ ap (λ z. cond z (Some wide) None) stands,
      (λ b h s. over_meets b moved c.time t p s (there_in one b t p h ep) there i.in_time),
    )

pub boxes_first : (one other : Ratio → Option Point) (b : BoxOf) (d : Ratio) → Covers one b → is_some b.space ≡ true → IsSometime (λ p q. are_within d p q ≡ true) one other
    → (wide : BoxOf) × (expanded b d ≡ Some wide) × ((c : BoxOf) → Covers other c → is_some c.space ≡ true → BoxesMeet c wide)
boxes_first one other b d h sb (t, p, q, ep, eq, near) = boxes_second other one b d h sb (t, q, p, eq, ep, within_back d p q near)
