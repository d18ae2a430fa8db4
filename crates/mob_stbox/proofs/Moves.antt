-- Areas expanded or shrunk, by their points.
use Rattle.std.{specs.Prelude.{◌≡◌, ◌↔◌, Bool, true, false, pos, refl}, proofs.lemmas.Bool.{and_parts}, proofs.Common.{arith}}
use Rattle.mob_ratio.{specs.Ratio.{Ratio, whole, ◌+ℚ◌, ◌-ℚ◌, ◌≤ℚ◌, neg_ℚ}, specs.Order.{before, up_to}, proofs.Clear.{clear2, clear3, clear4, cleared}}
use Rattle.mob_ratio.{proofs.Field.{le_refl, le_trans, le_of_lt, le_add}, proofs.IntRing.{linear}, proofs.Order.{before-lt, up_to-le, not-up_to-le}}
use Rattle.mob_plane.specs.declared.point.Point.{Point}
use Rattle.mob_stbox.{specs.Areas.{InArea, is_area}, specs.Expansion.{moved_area, AreWithin}, specs.declared.area.Area.{Area}}

-- ---- one coordinate

less_down : (p d : Ratio) → whole (pos 0) ≤ℚ d → (p -ℚ d) ≤ℚ p
less_down = clear2 _ (λ D p d q h. let h' = simp cleared at h in simp cleared (omega (arith, linear)))

more_up : (p d : Ratio) → whole (pos 0) ≤ℚ d → p ≤ℚ (p +ℚ d)
more_up = clear2 _ (λ D p d q h. let h' = simp cleared at h in simp cleared (omega (arith, linear)))

down_both : (a b d : Ratio) → a ≤ℚ b → (a -ℚ d) ≤ℚ (b -ℚ d)
down_both = clear3 _ (λ D a b d q h. let h' = simp cleared at h in simp cleared (omega (arith, linear)))

low_in : (l d p q : Ratio) → (l -ℚ d) ≤ℚ p → (p -ℚ neg_ℚ d) ≤ℚ q → l ≤ℚ q
low_in = clear4 _ (λ D l d p q r h k. let h' = simp cleared at h in let k' = simp cleared at k in simp cleared (omega (arith, linear)))

high_in : (u d p q : Ratio) → p ≤ℚ (u +ℚ d) → q ≤ℚ (p +ℚ neg_ℚ d) → q ≤ℚ u
high_in = clear4 _ (λ D u d p q r h k. let h' = simp cleared at h in let k' = simp cleared at k in simp cleared (omega (arith, linear)))

low_out : (l d p : Ratio) → l ≤ℚ (p -ℚ neg_ℚ d) → (l -ℚ d) ≤ℚ p
low_out = clear3 _ (λ D l d p r h. let h' = simp cleared at h in simp cleared (omega (arith, linear)))

high_out : (u d p : Ratio) → (p +ℚ neg_ℚ d) ≤ℚ u → p ≤ℚ (u +ℚ d)
high_out = clear3 _ (λ D u d p r h. let h' = simp cleared at h in simp cleared (omega (arith, linear)))

turned_positive : (d : Ratio) → d ≤ℚ whole (pos 0) → (p : Ratio) → ((p -ℚ neg_ℚ d) ≤ℚ p) × (p ≤ℚ (p +ℚ neg_ℚ d)) × ((p -ℚ neg_ℚ d) ≤ℚ (p +ℚ neg_ℚ d))
turned_positive d h p = pair p d h
  where
    pair : (p d : Ratio) → d ≤ℚ whole (pos 0) → ((p -ℚ neg_ℚ d) ≤ℚ p) × (p ≤ℚ (p +ℚ neg_ℚ d)) × ((p -ℚ neg_ℚ d) ≤ℚ (p +ℚ neg_ℚ d))
    pair = clear2 _ (λ D p d q h. let h' = simp cleared at h in (simp cleared (omega (arith, linear)), simp cleared (omega (arith, linear)), simp cleared (omega (arith, linear))))

-- some number between l and u is at most d from p
record HasNear (l u d p : Ratio) : Type 0 where
  near : Ratio
  from : l ≤ℚ near
  to : near ≤ℚ u
  low : (near -ℚ d) ≤ℚ p
  high : p ≤ℚ (near +ℚ d)

near_by : (l u d p : Ratio) (b c : Bool) → before p l ≡ b → before u p ≡ c → l ≤ℚ u → whole (pos 0) ≤ℚ d → (l -ℚ d) ≤ℚ p → p ≤ℚ (u +ℚ d) → HasNear l u d p
near_by l u d p true c e f h k m n = record { near = l; from = le_refl l; to = h; low = m; high = le_trans p l (l +ℚ d) (le_of_lt p l (before-lt p l e)) (more_up l d k) }
near_by l u d p false true e f h k m n = record { near = u; from = h; to = le_refl u; low = le_trans (u -ℚ d) u p (less_down u d k) (le_of_lt u p (before-lt u p f)); high = n }
near_by l u d p false false e f h k m n = record { near = p; from = up_to-le l p e; to = up_to-le p u f; low = less_down p d k; high = more_up p d k }

-- ---- areas

pub moved_outward : (a : Area) (d : Ratio) → is_area a ≡ true → whole (pos 0) ≤ℚ d → (p : Point) → InArea (moved_area a d) p ↔ ((q : Point) × InArea a q × AreWithin p q d)
moved_outward a d h k p = (
  λ i.
      let s = and_parts (up_to a.xmin a.xmax) (up_to a.ymin a.ymax) h in
      let x = near_by a.xmin a.xmax d p.x (before p.x a.xmin) (before a.xmax p.x) refl refl (not-up_to-le a.xmin a.xmax s.0) k i.from_west i.to_east in
      let y = near_by a.ymin a.ymax d p.y (before p.y a.ymin) (before a.ymax p.y) refl refl (not-up_to-le a.ymin a.ymax s.1) k i.from_south i.to_north in (
        record { x = x.near; y = y.near },
        record { from_west = x.from; to_east = x.to; from_south = y.from; to_north = y.to },
        record { from_west = x.low; to_east = x.high; from_south = y.low; to_north = y.high },
      ),
  λ m.
      let q = m.0 in
      record {
        from_west = le_trans (a.xmin -ℚ d) (q.x -ℚ d) p.x (down_both a.xmin q.x d m.1.from_west) m.2.from_west;
        to_east = le_trans p.x (q.x +ℚ d) (a.xmax +ℚ d) m.2.to_east (le_add q.x a.xmax d m.1.to_east);
        from_south = le_trans (a.ymin -ℚ d) (q.y -ℚ d) p.y (down_both a.ymin q.y d m.1.from_south) m.2.from_south;
        to_north = le_trans p.y (q.y +ℚ d) (a.ymax +ℚ d) m.2.to_north (le_add q.y a.ymax d m.1.to_north);
      },
)

pub moved_inward : (a : Area) (d : Ratio) → d ≤ℚ whole (pos 0) → (p : Point) → InArea (moved_area a d) p ↔ ((q : Point) → AreWithin q p (neg_ℚ d) → InArea a q)
moved_inward a d h p = (
  λ i q n. record {
    from_west = low_in a.xmin d p.x q.x i.from_west n.from_west;
    to_east = high_in a.xmax d p.x q.x i.to_east n.to_east;
    from_south = low_in a.ymin d p.y q.y i.from_south n.from_south;
    to_north = high_in a.ymax d p.y q.y i.to_north n.to_north;
  },
  λ f.
      let x = turned_positive d h p.x in
      let y = turned_positive d h p.y in
      let low = f (record { x = p.x -ℚ neg_ℚ d; y = p.y -ℚ neg_ℚ d }) (record { from_west = le_refl (p.x -ℚ neg_ℚ d); to_east = x.2; from_south = le_refl (p.y -ℚ neg_ℚ d); to_north = y.2 }) in
      let high = f (record { x = p.x +ℚ neg_ℚ d; y = p.y +ℚ neg_ℚ d }) (record { from_west = x.2; to_east = le_refl (p.x +ℚ neg_ℚ d); from_south = y.2; to_north = le_refl (p.y +ℚ neg_ℚ d) }) in
      record {
        from_west = low_out a.xmin d p.x low.from_west;
        to_east = high_out a.xmax d p.x high.to_east;
        from_south = low_out a.ymin d p.y low.from_south;
        to_north = high_out a.ymax d p.y high.to_north;
      },
)
