-- Each number is in one band.
use Rattle.std.{specs.Int.{int_div_euclid}, proofs.Common.{◌≡◌, ◌↔◌, inl, inr, ℕ, ◌*◌, ◌<◌, true, ℤ, pos, negsuc, ◌+ℤ◌, ◌*ℤ◌, ◌≤ℤ◌, ◌<ℤ◌, arith, refl, sym, ap, subst, ◌∙◌}}
use Rattle.std.{proofs.lemmas.Int.{ints}, proofs.lemmas.Bool.{and_parts, and_from, not_from_false}}
use Rattle.mob_ratio.{specs.Ratio.{Ratio, over, whole, ◌*ℚ◌, ◌/ℚ◌, ◌<ℚ◌, ◌≤ℚ◌}, specs.Order.{before, up_to}, specs.Sign.{nil}, proofs.Floors.{quotient_from, quotient_until}, proofs.IntRing.{linear, products}}
use Rattle.mob_ratio.{proofs.Clear.{cleared, whole-over, over_le, over_lt, one_positive, same_lt}, proofs.RatioLemmas.{den_pos, over-self, over-mul}}
use Rattle.mob_ratio.{proofs.Field.{cases_lt, not_both, lt_of_mul_pos, lt_mul_pos, le_of_eq, le_trans, le_lt, le_refl}, proofs.Divide.{div-mul, over-pos}}
use Rattle.mob_ratio.proofs.Order.{before-lt, lt-before, not-up_to-le, le-up_to}
use Rattle.mob_frac.specs.Fits.{ratio}
use Rattle.mob_grid.specs.Bands.{InBand, in_band, floor_of, band_of}
use native.Mathlib.Nat.{mul-pos}

-- ---- floors
pub mul_le : (a b c : Ratio) → nil <ℚ c → a ≤ℚ b → (a *ℚ c) ≤ℚ (b *ℚ c)
mul_le a b c p h = elim (cases_lt (b *ℚ c) (a *ℚ c)) [ inl k ↦ absurd (not_both b a (lt_of_mul_pos b a c p k) h) | inr k ↦ k ]

floor_from : (q : Ratio) → whole (floor_of q) ≤ℚ q
unfolding floor_of
floor_from q =
    let n = int_div_euclid q.num (pos q.den) in
    let h : (n *ℤ pos q.den) ≤ℤ (q.num *ℤ pos 1) = let k = quotient_from q.num q.den (den_pos q) in omega (arith, ints) in
    rw (whole-over n) (subst (λ z. over n 1 ≤ℚ z) (over-self q) ((over_le n q.num 1 q.den one_positive (den_pos q)).1 h))

floor_until : (q : Ratio) → q <ℚ whole (floor_of q +ℤ pos 1)
unfolding floor_of
floor_until q =
    let n = int_div_euclid q.num (pos q.den) in
    let h : (q.num *ℤ pos 1) <ℤ ((n +ℤ pos 1) *ℤ pos q.den) = let k = quotient_until q.num q.den (den_pos q) in omega (arith, ints) in
    rw (whole-over (n +ℤ pos 1)) (subst (λ z. z <ℚ over (n +ℤ pos 1) 1) (over-self q) ((over_lt q.num (n +ℤ pos 1) q.den 1 (den_pos q) one_positive).1 h))

-- ---- bands
pub not_nil : (c : Ratio) → nil <ℚ c → c ≡ whole (pos 0) → ⊥
not_nil c p e = not_both nil c p (le_of_eq c nil e)

pub band_has : (c x : Ratio) → nil <ℚ c → InBand c (band_of c x) x
band_has c x p =
    let q = x /ℚ c in
    let e : q *ℚ c ≡ x = div-mul x c (not_nil c p) in
    record {
      from = subst (λ z. (whole (floor_of q) *ℚ c) ≤ℚ z) e (mul_le (whole (floor_of q)) q c p (floor_from q));
      until = subst (λ z. z <ℚ (whole (floor_of q +ℤ pos 1) *ℚ c)) e (lt_mul_pos q (whole (floor_of q +ℤ pos 1)) c p (floor_until q));
    }

whole_lt : (n m : ℤ) → whole n <ℚ whole m → n <ℤ m
whole_lt n m h = (same_lt n m 1 one_positive).0 (rw (whole-over n, whole-over m) at h)

pub edges_lt : (c : Ratio) (n m : ℤ) → nil <ℚ c → (whole n *ℚ c) <ℚ (whole m *ℚ c) → n <ℤ m
edges_lt c n m p h = whole_lt n m (lt_of_mul_pos (whole n) (whole m) c p h)

pub next_le : (n m : ℤ) → n <ℤ (m +ℤ pos 1) → n ≤ℤ m
next_le n m h = omega (arith, ints)

-- the numbers of bands are ordered like their numbers
pub band_le : (c : Ratio) (n m : ℤ) (x y : Ratio) → nil <ℚ c → InBand c n x → InBand c m y → x ≤ℚ y → n ≤ℤ m
band_le c n m x y p a b h = next_le n m (edges_lt c n (m +ℤ pos 1) p (le_lt (whole n *ℚ c) y (whole (m +ℤ pos 1) *ℚ c) (le_trans (whole n *ℚ c) x y a.from h) b.until))

le_both : (n m : ℤ) → n ≤ℤ m → m ≤ℤ n → n ≡ m
le_both n m h k = omega (arith, ints)

pub one_band : (c : Ratio) (n m : ℤ) (x : Ratio) → nil <ℚ c → InBand c n x → InBand c m x → n ≡ m
one_band c n m x p a b = le_both n m (band_le c n m x x p a b (le_refl x)) (band_le c m n x x p b a (le_refl x))

pub band_is : (c : Ratio) (n : ℤ) (x : Ratio) → nil <ℚ c → InBand c n x → n ≡ band_of c x
band_is c n x p a = one_band c n (band_of c x) x p a (band_has c x p)

pub bands_rise : (c x y : Ratio) → nil <ℚ c → x ≤ℚ y → band_of c x ≤ℤ band_of c y
bands_rise c x y p h = band_le c (band_of c x) (band_of c y) x y p (band_has c x p) (band_has c y p) h

pub in_band_exact : (c : Ratio) (n : ℤ) (x : Ratio) → (in_band c n x ≡ true) ↔ InBand c n x
in_band_exact c n x = (
  (λ h. let w = and_parts (up_to (whole n *ℚ c) x) (before x (whole (n +ℤ pos 1) *ℚ c)) h in record { from = not-up_to-le (whole n *ℚ c) x w.0; until = before-lt x (whole (n +ℤ pos 1) *ℚ c) w.1 }),
  λ b. and_from (up_to (whole n *ℚ c) x) (before x (whole (n +ℤ pos 1) *ℚ c)) (not_from_false (before x (whole n *ℚ c)) (le-up_to (whole n *ℚ c) x b.from)) (lt-before x (whole (n +ℤ pos 1) *ℚ c) b.until),
)

-- ---- the number of a band, from the parts of two fractions
fraction_from : (k cd xd : ℕ) (xn n : ℤ) → 0 < cd → 0 < xd → (n *ℤ pos (xd * k)) ≤ℤ (xn *ℤ pos cd) → (whole n *ℚ over (pos k) cd) ≤ℚ over xn xd
fraction_from k cd xd xn n dc dx h =
    let one : 0 < 1 * cd = omega (arith, dc) in
    let low : ((n *ℤ pos k) *ℤ pos xd) ≤ℤ (xn *ℤ pos (1 * cd)) = simp products (let h' = simp products at h in omega (arith, linear)) in
    rw (whole-over n, over-mul n (pos k) 1 cd one_positive dc) ((over_le (n *ℤ pos k) xn (1 * cd) xd one dx).1 low)

fraction_until : (k cd xd : ℕ) (xn m : ℤ) → 0 < cd → 0 < xd → (xn *ℤ pos cd) <ℤ (m *ℤ pos (xd * k)) → over xn xd <ℚ (whole m *ℚ over (pos k) cd)
fraction_until k cd xd xn m dc dx h =
    let one : 0 < 1 * cd = omega (arith, dc) in
    let high : (xn *ℤ pos (1 * cd)) <ℤ ((m *ℤ pos k) *ℤ pos xd) = simp products (let h' = simp products at h in omega (arith, linear)) in
    rw (whole-over m, over-mul m (pos k) 1 cd one_positive dc) ((over_lt xn (m *ℤ pos k) xd (1 * cd) dx one).1 high)

some_num : (c : Ratio) → nil <ℚ c → pos 0 <ℤ c.num
some_num c p =
    let d = den_pos c in
    let q : nil <ℚ over c.num c.den = subst (λ z. nil <ℚ z) (sym (over-self c)) p in
    simp cleared at q

pub some_part : (c : Ratio) → nil <ℚ c → (k : ℕ) × (c.num ≡ pos k) × (0 < k)
some_part c p = by c.num (some_num c p)
  where
    by : (n : ℤ) → pos 0 <ℤ n → (k : ℕ) × (n ≡ pos k) × (0 < k)
    by (pos k) h = (k, refl, omega (arith, ints))
    by (negsuc k) h = absurd (omega (arith, ints))

pub band_by_parts : (c x : Ratio) → nil <ℚ c → int_div_euclid (x.num *ℤ pos c.den) (pos x.den *ℤ c.num) ≡ band_of c x
band_by_parts c x p =
    let s = some_part c p in
    let k = s.0 in
    let dc = den_pos c in
    let dx = den_pos x in
    let below : 0 < x.den * k = mul-pos dx s.2 in
    let e : pos x.den *ℤ c.num ≡ pos (x.den * k) = ap (λ z. pos x.den *ℤ z) s.1 in
    let top = x.num *ℤ pos c.den in
    let n = int_div_euclid top (pos (x.den * k)) in
    let ec : over (pos k) c.den ≡ c = subst (λ z. over z c.den ≡ c) s.1 (over-self c) in
    let a : InBand c n x = record {
      from = subst (λ z. (whole n *ℚ z) ≤ℚ x) ec (subst (λ z. (whole n *ℚ over (pos k) c.den) ≤ℚ z) (over-self x) (fraction_from k c.den x.den x.num n dc dx (quotient_from top (x.den * k) below)));
      until = subst (λ z. x <ℚ (whole (n +ℤ pos 1) *ℚ z)) ec (subst (λ z. z <ℚ (whole (n +ℤ pos 1) *ℚ over (pos k) c.den)) (over-self x) (fraction_until k c.den x.den x.num (n +ℤ pos 1) dc dx (quotient_until top (x.den * k) below)));
    } in
    ap (int_div_euclid top) e ∙ band_is c n x p a

pub bottom_positive : (c x : Ratio) → nil <ℚ c → pos 0 <ℤ (pos x.den *ℤ c.num)
bottom_positive c x p =
    let s = some_part c p in
    subst (λ z. pos 0 <ℤ (pos x.den *ℤ z)) (sym s.1) (above (x.den * s.0) (mul-pos (den_pos x) s.2))
  where
    above : (n : ℕ) → 0 < n → pos 0 <ℤ pos n
    above n h = omega (arith, ints)

-- the edge of number n, from the parts of the width
pub edge_is : (n : ℤ) (c : Ratio) → ratio (n *ℤ c.num) (pos c.den) ≡ whole n *ℚ c
edge_is n c =
    let d = den_pos c in
    let one : 1 * c.den ≡ c.den = omega arith in
    let made : whole n *ℚ over c.num c.den ≡ over (n *ℤ c.num) (1 * c.den) = rw (whole-over n) (over-mul n c.num 1 c.den one_positive d) in
    sym (over-pos (n *ℤ c.num) c.den d) ∙ ap (over (n *ℤ c.num)) (sym one) ∙ sym made ∙ ap (λ z. whole n *ℚ z) (over-self c)
