-- An edge crosses the height of a point to the right of it exactly if the point lies to the left of
-- an edge that goes up, or to the right of one that goes down.
use Rattle.std.{specs.Prelude.{◌≡◌, ◌≢◌, refl, Bool, false, true, pos, ◌+ℤ◌, neg_ℤ}, proofs.Common.{arith}}
use Rattle.mob_ratio.{specs.Ratio.{Ratio, whole, ◌<ℚ◌, ◌+ℚ◌, ◌-ℚ◌, ◌*ℚ◌}, specs.Order.{before}, specs.Sign.{nil}, specs.Line.{IsOnLine, line_value}}
use Rattle.mob_ratio.{proofs.IntRing.{linear, products, lt_mul, lt_of_mul}, proofs.Clear.{clear2, clear7, cleared, fractions}, proofs.Divide.{div-mul, sub_ne-zero}}
use Rattle.mob_ratio.proofs.Order.{before-lt, lt-before, before-neither, same_truth}
use Rattle.mob_plane.{specs.Turns.{turn}, specs.Membership.{crossing_at}, specs.declared.point.Point.{Point}}

-- the turn, from its coordinates
abbrev turned : Ratio → Ratio → Ratio → Ratio → Ratio → Ratio → Ratio
turned ax ay bx by px py = (bx -ℚ ax) *ℚ (py -ℚ ay) -ℚ (by -ℚ ay) *ℚ (px -ℚ ax)

up_left : (ax ay bx by px py x : Ratio) → ay <ℚ by → IsOnLine ay ax by bx py x → px <ℚ x → whole (pos 0) <ℚ turned ax ay bx by px py
up_left = clear7 _ (λ D ax ay bx by px py x p h m k.
    let h' = simp fractions at h in
    let k' = simp fractions at k in
    let m' = simp cleared at m.is in
    let n = simp products at (lt_mul px x (by +ℤ neg_ℤ ay) (omega (arith, linear)) k') in
    simp cleared (omega (arith, linear)))

up_back : (ax ay bx by px py x : Ratio) → ay <ℚ by → IsOnLine ay ax by bx py x → whole (pos 0) <ℚ turned ax ay bx by px py → px <ℚ x
up_back = clear7 _ (λ D ax ay bx by px py x p h m k.
    let h' = simp fractions at h in
    let k' = simp cleared at k in
    let m' = simp cleared at m.is in
    simp fractions (lt_of_mul px x (by +ℤ neg_ℤ ay) (omega (arith, linear)) (simp products (omega (arith, linear)))))

down_right : (ax ay bx by px py x : Ratio) → by <ℚ ay → IsOnLine ay ax by bx py x → px <ℚ x → turned ax ay bx by px py <ℚ whole (pos 0)
down_right = clear7 _ (λ D ax ay bx by px py x p h m k.
    let h' = simp fractions at h in
    let k' = simp fractions at k in
    let m' = simp cleared at m.is in
    let n = simp products at (lt_mul px x (ay +ℤ neg_ℤ by) (omega (arith, linear)) k') in
    simp cleared (omega (arith, linear)))

down_back : (ax ay bx by px py x : Ratio) → by <ℚ ay → IsOnLine ay ax by bx py x → turned ax ay bx by px py <ℚ whole (pos 0) → px <ℚ x
down_back = clear7 _ (λ D ax ay bx by px py x p h m k.
    let h' = simp fractions at h in
    let k' = simp cleared at k in
    let m' = simp cleared at m.is in
    simp fractions (lt_of_mul px x (ay +ℤ neg_ℤ by) (omega (arith, linear)) (simp products (omega (arith, linear)))))

falling_ne : (l u : Ratio) → u <ℚ l → u -ℚ l ≢ whole (pos 0)
falling_ne = clear2 _ (λ D l u p h e.
    let h' = simp cleared at h in
    let e' = simp cleared at e in
    absurd (omega (arith, linear)))

-- the crossing is the point of the edge's line at that height
crossing_is : (a b : Point) (h : Ratio) → b.y -ℚ a.y ≢ whole (pos 0) → IsOnLine a.y a.x b.y b.x h (crossing_at (a, b) h)
unfolding line_value
crossing_is a b h n = record { is = div-mul (a.x *ℚ (b.y -ℚ h) +ℚ b.x *ℚ (h -ℚ a.y)) (b.y -ℚ a.y) n }

level_by : (l u : Ratio) (a b : Bool) → before l u ≡ a → before u l ≡ b → l ≢ u → u -ℚ l ≢ whole (pos 0)
level_by l u true b ea eb n = sub_ne-zero l u (before-lt l u ea)
level_by l u false true ea eb n = falling_ne l u (before-lt u l eb)
level_by l u false false ea eb n = absurd (n (before-neither l u ea eb))

-- if the edge is not horizontal
pub crossing_on : (a b : Point) (h : Ratio) → a.y ≢ b.y → IsOnLine a.y a.x b.y b.x h (crossing_at (a, b) h)
crossing_on a b h n = crossing_is a b h (level_by a.y b.y (before a.y b.y) (before b.y a.y) refl refl n)

pub rising_crossing : (a b p : Point) → before a.y b.y ≡ true → before p.x (crossing_at (a, b) p.y) ≡ before nil (turn a b p)
rising_crossing a b p h =
    let k = before-lt a.y b.y h in
    let m = crossing_is a b p.y (sub_ne-zero a.y b.y k) in
    same_truth _ _
    (λ e. lt-before nil (turn a b p) (up_left a.x a.y b.x b.y p.x p.y (crossing_at (a, b) p.y) k m (before-lt p.x (crossing_at (a, b) p.y) e)))
    (λ e. lt-before p.x (crossing_at (a, b) p.y) (up_back a.x a.y b.x b.y p.x p.y (crossing_at (a, b) p.y) k m (before-lt nil (turn a b p) e)))

pub falling_crossing : (a b p : Point) → before b.y a.y ≡ true → before p.x (crossing_at (a, b) p.y) ≡ before (turn a b p) nil
falling_crossing a b p h =
    let k = before-lt b.y a.y h in
    let m = crossing_is a b p.y (falling_ne a.y b.y k) in
    same_truth _ _
    (λ e. lt-before (turn a b p) nil (down_right a.x a.y b.x b.y p.x p.y (crossing_at (a, b) p.y) k m (before-lt p.x (crossing_at (a, b) p.y) e)))
    (λ e. lt-before p.x (crossing_at (a, b) p.y) (down_back a.x a.y b.x b.y p.x p.y (crossing_at (a, b) p.y) k m (before-lt (turn a b p) nil e)))
