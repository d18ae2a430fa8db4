-- The values of a line between two of its points, and how closely they approach its limits.
use Rattle.std.proofs.Common.{◌≡◌, Bool, true, false, ℤ, pos, negsuc, ◌+ℤ◌, neg_ℤ, ◌*ℤ◌, ◌<ℤ◌, ◌≤ℤ◌, refl, arith}
use Rattle.mob_ratio.{specs.Ratio.{Ratio, ◌<ℚ◌, ◌≤ℚ◌}, specs.Order.{before, up_to}, specs.Line.{IsOnLine, line_at}, proofs.IntRing.{linear, products, lt_mul, le_mul, lt_of_mul, le_cancel}}
use Rattle.mob_ratio.{proofs.Clear.{clear6, fractions, cleared}, proofs.Order.{before-lt, lt-before, before-trans, before-weak, before-up_to, up_to-before, between, le-test, not-up_to-le}}
use Rattle.mob_ratio.proofs.LineAt.{line_at-is, line_at-known}

le_of_mul : (a b c : ℤ) → pos 0 <ℤ c → (a *ℤ c) ≤ℤ (b *ℤ c) → a ≤ℤ b
le_of_mul a b (pos n) p h = le_cancel a b n (omega (arith, linear)) h
le_of_mul a b (negsuc n) p h = absurd (omega (arith, linear))

-- between two instants a rising line is between its limits
rising_within : (l x0 u x1 t x : Ratio) → l <ℚ u → IsOnLine l x0 u x1 t x → l ≤ℚ t → t ≤ℚ u → x0 ≤ℚ x1 → (x0 ≤ℚ x) × (x ≤ℚ x1)
rising_within = clear6 _ (λ D l x0 u x1 t x p h k a b c.
    let h' = simp fractions at h in
    let k' = simp cleared at k.is in
    let a' = simp fractions at a in
    let b' = simp fractions at b in
    let c' = simp fractions at c in
    let d : pos 0 <ℤ (u +ℤ neg_ℤ l) = omega (arith, linear) in
    let m = simp products at (le_mul x0 x1 (t +ℤ neg_ℤ l) (omega (arith, linear)) c') in
    let n = simp products at (le_mul x0 x1 (u +ℤ neg_ℤ t) (omega (arith, linear)) c') in
    (simp fractions (le_of_mul x0 x (u +ℤ neg_ℤ l) d (simp products (omega (arith, linear)))), simp fractions (le_of_mul x x1 (u +ℤ neg_ℤ l) d (simp products (omega (arith, linear))))))

-- and a falling one
falling_within : (l x0 u x1 t x : Ratio) → l <ℚ u → IsOnLine l x0 u x1 t x → l ≤ℚ t → t ≤ℚ u → x1 ≤ℚ x0 → (x1 ≤ℚ x) × (x ≤ℚ x0)
falling_within = clear6 _ (λ D l x0 u x1 t x p h k a b c.
    let h' = simp fractions at h in
    let k' = simp cleared at k.is in
    let a' = simp fractions at a in
    let b' = simp fractions at b in
    let c' = simp fractions at c in
    let d : pos 0 <ℤ (u +ℤ neg_ℤ l) = omega (arith, linear) in
    let m = simp products at (le_mul x1 x0 (t +ℤ neg_ℤ l) (omega (arith, linear)) c') in
    let n = simp products at (le_mul x1 x0 (u +ℤ neg_ℤ t) (omega (arith, linear)) c') in
    (simp fractions (le_of_mul x1 x (u +ℤ neg_ℤ l) d (simp products (omega (arith, linear)))), simp fractions (le_of_mul x x0 (u +ℤ neg_ℤ l) d (simp products (omega (arith, linear))))))

-- strictly between its ends a rising line is strictly between its limits
rising_inside : (l x0 u x1 t x : Ratio) → IsOnLine l x0 u x1 t x → l <ℚ t → t <ℚ u → x0 <ℚ x1 → (x0 <ℚ x) × (x <ℚ x1)
rising_inside = clear6 _ (λ D l x0 u x1 t x p k a b c.
    let k' = simp cleared at k.is in
    let a' = simp fractions at a in
    let b' = simp fractions at b in
    let c' = simp fractions at c in
    let d : pos 0 <ℤ (u +ℤ neg_ℤ l) = omega (arith, linear) in
    let m = simp products at (lt_mul x0 x1 (t +ℤ neg_ℤ l) (omega (arith, linear)) c') in
    let n = simp products at (lt_mul x0 x1 (u +ℤ neg_ℤ t) (omega (arith, linear)) c') in
    (simp fractions (lt_of_mul x0 x (u +ℤ neg_ℤ l) d (simp products (omega (arith, linear)))), simp fractions (lt_of_mul x x1 (u +ℤ neg_ℤ l) d (simp products (omega (arith, linear))))))

falling_inside : (l x0 u x1 t x : Ratio) → IsOnLine l x0 u x1 t x → l <ℚ t → t <ℚ u → x1 <ℚ x0 → (x1 <ℚ x) × (x <ℚ x0)
falling_inside = clear6 _ (λ D l x0 u x1 t x p k a b c.
    let k' = simp cleared at k.is in
    let a' = simp fractions at a in
    let b' = simp fractions at b in
    let c' = simp fractions at c in
    let d : pos 0 <ℤ (u +ℤ neg_ℤ l) = omega (arith, linear) in
    let m = simp products at (lt_mul x1 x0 (t +ℤ neg_ℤ l) (omega (arith, linear)) c') in
    let n = simp products at (lt_mul x1 x0 (u +ℤ neg_ℤ t) (omega (arith, linear)) c') in
    (simp fractions (lt_of_mul x1 x (u +ℤ neg_ℤ l) d (simp products (omega (arith, linear)))), simp fractions (lt_of_mul x x0 (u +ℤ neg_ℤ l) d (simp products (omega (arith, linear))))))

-- the line with values and instants exchanged: it maps a value to the instant at which the line has
-- it
turned : (l x0 u x1 t x : Ratio) → IsOnLine x0 l x1 u x t → IsOnLine l x0 u x1 t x
turned = clear6 _ (λ D l x0 u x1 t x p k. let k' = simp cleared at k.is in record { is = simp cleared (omega (arith, linear)) })

-- a line read from its other end is the same line
flipped : (l x0 u x1 t x : Ratio) → IsOnLine u x1 l x0 t x → IsOnLine l x0 u x1 t x
flipped = clear6 _ (λ D l x0 u x1 t x p k. let k' = simp cleared at k.is in record { is = simp cleared (omega (arith, linear)) })

-- between the ends, limits included
pub record IsWithin (x0 x1 x : Ratio) : Type 0 where
  pub rising : up_to x0 x1 ≡ true → (up_to x0 x ≡ true) × (up_to x x1 ≡ true)
  pub falling : up_to x1 x0 ≡ true → (up_to x1 x ≡ true) × (up_to x x0 ≡ true)

pub within : (x0 x1 l u t : Ratio) → before l u ≡ true → up_to l t ≡ true → up_to t u ≡ true → IsWithin x0 x1 (line_at x0 x1 l u t)
within x0 x1 l u t h a b =
    let x = line_at x0 x1 l u t in
    record {
      rising = λ c. let r = rising_within l x0 u x1 t x (before-lt l u h) (line_at-is x0 x1 l u t h) (not-up_to-le l t a) (not-up_to-le t u b) (not-up_to-le x0 x1 c) in (le-test x0 x r.0, le-test x x1 r.1);
      falling = λ c. let r = falling_within l x0 u x1 t x (before-lt l u h) (line_at-is x0 x1 l u t h) (not-up_to-le l t a) (not-up_to-le t u b) (not-up_to-le x1 x0 c) in (le-test x1 x r.0, le-test x x0 r.1);
    }

-- an instant strictly between the ends, at which the line has the number y
pub record HasInside (x0 x1 l u y : Ratio) : Type 0 where
  pub at : Ratio
  pub after : before l at ≡ true
  pub until : before at u ≡ true
  pub is : line_at x0 x1 l u at ≡ y

-- a line takes each value strictly between its limits, at an instant strictly between its ends
pub rises_through : (x0 x1 l u y : Ratio) → before l u ≡ true → before x0 y ≡ true → before y x1 ≡ true → HasInside x0 x1 l u y
rises_through x0 x1 l u y h a b =
    let t = line_at l u x0 x1 y in
    let on = line_at-is l u x0 x1 y (before-trans x0 y x1 a b) in
    let r = rising_inside x0 l x1 u y t on (before-lt x0 y a) (before-lt y x1 b) (before-lt l u h) in
    record { at = t; after = lt-before l t r.0; until = lt-before t u r.1; is = line_at-known x0 x1 l u t y h (turned l x0 u x1 t y on) }

pub falls_through : (x0 x1 l u y : Ratio) → before l u ≡ true → before x1 y ≡ true → before y x0 ≡ true → HasInside x0 x1 l u y
falls_through x0 x1 l u y h a b =
    let t = line_at u l x1 x0 y in
    let on = line_at-is u l x1 x0 y (before-trans x1 y x0 a b) in
    let r = falling_inside x1 u x0 l y t on (before-lt x1 y a) (before-lt y x0 b) (before-lt l u h) in
    record { at = t; after = lt-before l t r.0; until = lt-before t u r.1; is = line_at-known x0 x1 l u t y h (flipped l x0 u x1 t y (turned u x1 l x0 t y on)) }

-- an instant strictly between the ends, at which the line is below c, or above it
pub record HasBelow (x0 x1 l u c : Ratio) : Type 0 where
  pub at : Ratio
  pub after : before l at ≡ true
  pub until : before at u ≡ true
  pub is : before (line_at x0 x1 l u at) c ≡ true

pub record HasAbove (x0 x1 l u c : Ratio) : Type 0 where
  pub at : Ratio
  pub after : before l at ≡ true
  pub until : before at u ≡ true
  pub is : before c (line_at x0 x1 l u at) ≡ true

middle_below : (x0 x1 l u c : Ratio) → before l u ≡ true → before x0 c ≡ true → before x1 c ≡ true → HasBelow x0 x1 l u c
middle_below x0 x1 l u c h a b = let m = between l u h in record { at = m.0; after = m.1; until = m.2; is = by_test m.0 (within x0 x1 l u m.0 h (before-weak l m.0 m.1) (before-weak m.0 u m.2)) (before x1 x0) refl }
  where
    by_test : (t : Ratio) → IsWithin x0 x1 (line_at x0 x1 l u t) → (d : Bool) → before x1 x0 ≡ d → before (line_at x0 x1 l u t) c ≡ true
    by_test t w true e = up_to-before (line_at x0 x1 l u t) x0 c (w.falling (before-weak x1 x0 e)).1 a
    by_test t w false e = up_to-before (line_at x0 x1 l u t) x1 c (w.rising (grind (arith, e))).1 b

middle_above : (x0 x1 l u c : Ratio) → before l u ≡ true → before c x0 ≡ true → before c x1 ≡ true → HasAbove x0 x1 l u c
middle_above x0 x1 l u c h a b = let m = between l u h in record { at = m.0; after = m.1; until = m.2; is = by_test m.0 (within x0 x1 l u m.0 h (before-weak l m.0 m.1) (before-weak m.0 u m.2)) (before x1 x0) refl }
  where
    by_test : (t : Ratio) → IsWithin x0 x1 (line_at x0 x1 l u t) → (d : Bool) → before x1 x0 ≡ d → before c (line_at x0 x1 l u t) ≡ true
    by_test t w true e = before-up_to c x1 (line_at x0 x1 l u t) b (w.falling (before-weak x1 x0 e)).0
    by_test t w false e = before-up_to c x0 (line_at x0 x1 l u t) a (w.rising (grind (arith, e))).0

-- A line that starts below c is below c at some instant strictly between its ends.
pub start_below : (x0 x1 l u c : Ratio) → before l u ≡ true → before x0 c ≡ true → HasBelow x0 x1 l u c
start_below x0 x1 l u c h a = by_test (before x1 c) refl
  where
    by_test : (b : Bool) → before x1 c ≡ b → HasBelow x0 x1 l u c
    by_test true e = middle_below x0 x1 l u c h a e
    by_test false e =
        let y = between x0 c a in
        let i = rises_through x0 x1 l u y.0 h y.1 (before-up_to y.0 c x1 y.2 (grind (arith, e))) in
        record { at = i.at; after = i.after; until = i.until; is = rw i.is y.2 }

pub end_below : (x0 x1 l u c : Ratio) → before l u ≡ true → before x1 c ≡ true → HasBelow x0 x1 l u c
end_below x0 x1 l u c h a = by_test (before x0 c) refl
  where
    by_test : (b : Bool) → before x0 c ≡ b → HasBelow x0 x1 l u c
    by_test true e = middle_below x0 x1 l u c h e a
    by_test false e =
        let y = between x1 c a in
        let i = falls_through x0 x1 l u y.0 h y.1 (before-up_to y.0 c x0 y.2 (grind (arith, e))) in
        record { at = i.at; after = i.after; until = i.until; is = rw i.is y.2 }

-- A line that starts above c is above it at some instant there.
pub start_above : (x0 x1 l u c : Ratio) → before l u ≡ true → before c x0 ≡ true → HasAbove x0 x1 l u c
start_above x0 x1 l u c h a = by_test (before c x1) refl
  where
    by_test : (b : Bool) → before c x1 ≡ b → HasAbove x0 x1 l u c
    by_test true e = middle_above x0 x1 l u c h a e
    by_test false e =
        let y = between c x0 a in
        let i = falls_through x0 x1 l u y.0 h (up_to-before x1 c y.0 (grind (arith, e)) y.1) y.2 in
        record { at = i.at; after = i.after; until = i.until; is = rw i.is y.1 }

pub end_above : (x0 x1 l u c : Ratio) → before l u ≡ true → before c x1 ≡ true → HasAbove x0 x1 l u c
end_above x0 x1 l u c h a = by_test (before c x0) refl
  where
    by_test : (b : Bool) → before c x0 ≡ b → HasAbove x0 x1 l u c
    by_test true e = middle_above x0 x1 l u c h e a
    by_test false e =
        let y = between c x1 a in
        let i = rises_through x0 x1 l u y.0 h (up_to-before x0 c y.0 (grind (arith, e)) y.1) y.2 in
        record { at = i.at; after = i.after; until = i.until; is = rw i.is y.1 }
