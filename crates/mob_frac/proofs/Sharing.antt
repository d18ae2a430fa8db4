-- Sums and products whose common divisors are divided out before multiplying.
use Rattle.std.{specs.Int.{◌∣◌}, proofs.Common.{◌≡◌, ℕ, ◌+◌, ◌-◌, ◌*◌, ◌/◌, ◌<◌, ℤ, pos, ◌+ℤ◌, ◌*ℤ◌, ◌<ℤ◌, nat_abs, int_div, arith, ap, sym, subst, ◌∙◌, ◌⊎◌, inl, inr}}
use Rattle.std.{proofs.lemmas.Bool.{cases_eq}, proofs.lemmas.Int.{unsigned_abs-mul}}
use Rattle.mob_ratio.{specs.Gcd.{gcd}, specs.GcdLaws.{gcd-is, gcd_comm, gcd_pos, gcd_reduced, dvd_of_coprime}, specs.LowestLaws.{lowest_in, abs-div}, specs.Ratio.{Ratio, over, ◌+ℚ◌, ◌*ℚ◌}}
use Rattle.mob_ratio.{proofs.IntRing.{linear, products}, proofs.RatioLemmas.{den_pos, lowest_gcd, over-same, over-cross, over-mul, over-parts}, proofs.ProductLemmas.{coprime-mul, coprime-dvd}}
use Rattle.mob_frac.{specs.Fits.{IsLowest}, proofs.Shares.{factor_positive}}
use native.Mathlib.Nat.{dvd_refl, eq-one_of_dvd-one, mul_assoc, div-mul_cancel, mul-div_cancel, dvd-mul_right, dvd-mul_left, dvd-add, dvd-sub, dvd_trans, mul-pos, mul_comm}

pub den_positive : (q : Ratio) (d : ℤ) → d ≡ pos q.den → pos 0 <ℤ d
den_positive q d e = let h : 0 < q.den = den_pos q in rw e (omega (arith, linear))

-- divisors of coprime numbers are coprime
coprime_parts : (m n x y : ℕ) → x ∣ m → y ∣ n → gcd m n ≡ 1 → gcd x y ≡ 1
coprime_parts m n x y p q e = coprime-dvd m x y p (gcd_comm m y ∙ coprime-dvd n y m q (gcd_comm n m ∙ e))

coprime_both : (x y u v : ℕ) → gcd x u ≡ 1 → gcd x v ≡ 1 → gcd y u ≡ 1 → gcd y v ≡ 1 → gcd (x * y) (u * v) ≡ 1
coprime_both x y u v xu xv yu yv =
    gcd_comm (x * y) (u * v) ∙ coprime-mul (u * v) x y (gcd_comm (u * v) x ∙ coprime-mul x u v xu xv) (gcd_comm (u * v) y ∙ coprime-mul y u v yu yv)

parts_divide : (n : ℤ) (d : ℕ) → 0 < d → (nat_abs (over n d).num ∣ nat_abs n) × ((over n d).den ∣ d)
parts_divide n d h =
    let g = gcd (nat_abs n) d in
    let e = over-parts n d h in
    let x : nat_abs n / g * g ≡ nat_abs n = div-mul_cancel g (gcd-is (nat_abs n) d).0 in
    let y : d / g * g ≡ d = div-mul_cancel g (gcd-is (nat_abs n) d).1 in (
      rw (e.0, abs-div n g) (subst (λ (m : ℕ). nat_abs n / g ∣ m) x (dvd-mul_right (nat_abs n / g) g)),
      rw e.1 (subst (λ (m : ℕ). d / g ∣ m) y (dvd-mul_right (d / g) g)),
    )

-- the product, from each numerator over the other's denominator
pub crossed : (a b p q : Ratio) → p ≡ over a.num b.den → q ≡ over b.num a.den
    → IsLowest (p.num *ℤ q.num) (pos (p.den * q.den)) × (over (p.num *ℤ q.num) (p.den * q.den) ≡ a *ℚ b)
unfolding ◌*ℚ◌
crossed a b p q ep eq =
    let x = subst (λ (r : Ratio). (nat_abs r.num ∣ nat_abs a.num) × (r.den ∣ b.den)) (sym ep) (parts_divide a.num b.den (den_pos b)) in
    let y = subst (λ (r : Ratio). (nat_abs r.num ∣ nat_abs b.num) × (r.den ∣ a.den)) (sym eq) (parts_divide b.num a.den (den_pos a)) in
    let one : gcd (nat_abs p.num * nat_abs q.num) (p.den * q.den) ≡ 1 =
    coprime_both (nat_abs p.num) (nat_abs q.num) p.den q.den
    (lowest_gcd p)
    (coprime_parts (nat_abs a.num) a.den (nat_abs p.num) q.den x.0 y.1 (lowest_gcd a))
    (coprime_parts (nat_abs b.num) b.den (nat_abs q.num) p.den y.0 x.1 (lowest_gcd b))
    (lowest_gcd q)
    in
    let d : 0 < p.den * q.den = mul-pos (den_pos p) (den_pos q) in
    let value : p *ℚ q ≡ over (a.num *ℤ b.num) (b.den * a.den) = ap (λ (r : Ratio). r *ℚ q) ep ∙ ap (λ (r : Ratio). over a.num b.den *ℚ r) eq ∙ over-mul a.num b.num b.den a.den (den_pos b) (den_pos a) in (
      record { den_positive = omega (arith, linear); lowest = lowest_in (p.num *ℤ q.num) (p.den * q.den) d (rw unsigned_abs-mul one) },
      value ∙ ap (over (a.num *ℤ b.num)) (mul_comm b.den a.den),
    )

dvd_of_sum : (d : ℕ) (x y : ℤ) → d ∣ nat_abs (x +ℤ y) → d ∣ nat_abs y → d ∣ nat_abs x
dvd_of_sum d x y s t = by (cases_eq (nat_abs x) (nat_abs (x +ℤ y) + nat_abs y))
  where
    by : (nat_abs x ≡ nat_abs (x +ℤ y) + nat_abs y) ⊎ (nat_abs x ≡ nat_abs (x +ℤ y) + nat_abs y → ⊥) → d ∣ nat_abs x
    by (inl e) = rw e (dvd-add d s t)
    by (inr ne) =
        let e : nat_abs x ≡ (nat_abs (x +ℤ y) - nat_abs y) + (nat_abs y - nat_abs (x +ℤ y)) = omega (arith, linear) in
        rw e (dvd-add d (dvd-sub d s t) (dvd-sub d t s))

-- the numerator of a sum is coprime to the unshared part of a denominator
top_clear : (m n : ℤ) (p q : ℕ) → gcd (nat_abs m) p ≡ 1 → gcd p q ≡ 1 → gcd (nat_abs (m *ℤ pos q +ℤ n *ℤ pos p)) p ≡ 1
top_clear m n p q e f =
    let t = m *ℤ pos q +ℤ n *ℤ pos p in
    let d = gcd (nat_abs t) p in
    let is = gcd-is (nat_abs t) p in
    let second : d ∣ nat_abs (n *ℤ pos p) = rw unsigned_abs-mul (dvd_trans d is.1 (dvd-mul_left p (nat_abs n))) in
    let first : d ∣ q * nat_abs m = subst (λ (k : ℕ). d ∣ k) (unsigned_abs-mul m (pos q) ∙ mul_comm (nat_abs m) q) (dvd_of_sum d (m *ℤ pos q) (n *ℤ pos p) is.0 second) in
    let own : d ∣ nat_abs m = dvd_of_coprime d q (nat_abs m) (coprime-dvd p d q is.1 f) first in
    eq-one_of_dvd-one (subst (λ (k : ℕ). d ∣ k) e ((gcd-is (nat_abs m) p).2 d own is.1))

-- the parts of a sum of a and b: s is the greatest common divisor of the denominators, p and q are
-- their quotients by s, and t is the numerator over the least common denominator
pub record IsUnlike (a b : Ratio) (s p q : ℕ) (t : ℤ) : Type 0 where
  pub left : p * s ≡ a.den
  pub right : q * s ≡ b.den
  pub apart : gcd p q ≡ 1
  pub positive : 0 < s
  pub top : t ≡ a.num *ℤ pos q +ℤ b.num *ℤ pos p

pub unlike : (a b : Ratio) (t : ℤ) → t ≡ a.num *ℤ pos (b.den / gcd a.den b.den) +ℤ b.num *ℤ pos (a.den / gcd a.den b.den)
    → IsUnlike a b (gcd a.den b.den) (a.den / gcd a.den b.den) (b.den / gcd a.den b.den) t
unlike a b t e = record {
  left = div-mul_cancel (gcd a.den b.den) (gcd-is a.den b.den).0;
  right = div-mul_cancel (gcd a.den b.den) (gcd-is a.den b.den).1;
  apart = gcd_reduced a.den b.den (den_pos b);
  positive = gcd_pos a.den b.den (den_pos b);
  top = e;
}

top_lowest : (a b : Ratio) (s p q : ℕ) (t : ℤ) → IsUnlike a b s p q t → gcd (nat_abs (over t s).num) (p * (q * (over t s).den)) ≡ 1
top_lowest a b s p q t h =
    let u = over t s in
    let n : nat_abs u.num ∣ nat_abs t = (parts_divide t s h.positive).0 in
    let p-a : p ∣ a.den = subst (λ (k : ℕ). p ∣ k) h.left (dvd-mul_right p s) in
    let q-b : q ∣ b.den = subst (λ (k : ℕ). q ∣ k) h.right (dvd-mul_right q s) in
    let am : gcd (nat_abs a.num) p ≡ 1 = coprime_parts (nat_abs a.num) a.den (nat_abs a.num) p (dvd_refl (nat_abs a.num)) p-a (lowest_gcd a) in
    let bm : gcd (nat_abs b.num) q ≡ 1 = coprime_parts (nat_abs b.num) b.den (nat_abs b.num) q (dvd_refl (nat_abs b.num)) q-b (lowest_gcd b) in
    let tp : gcd (nat_abs t) p ≡ 1 = rw h.top (top_clear a.num b.num p q am h.apart) in
    let turned : t ≡ b.num *ℤ pos p +ℤ a.num *ℤ pos q = h.top ∙ add_comm (a.num *ℤ pos q) (b.num *ℤ pos p) in
    let tq : gcd (nat_abs t) q ≡ 1 = rw turned (top_clear b.num a.num q p bm (gcd_comm q p ∙ h.apart)) in
    coprime-mul (nat_abs u.num) p (q * u.den) (coprime-dvd (nat_abs t) (nat_abs u.num) p n tp) (coprime-mul (nat_abs u.num) q u.den (coprime-dvd (nat_abs t) (nat_abs u.num) q n tq) (lowest_gcd u))
  where
    add_comm : (x y : ℤ) → x +ℤ y ≡ y +ℤ x
    add_comm x y = omega (arith, linear)

top_value : (a b : Ratio) (s p q : ℕ) (t : ℤ) → IsUnlike a b s p q t → over (over t s).num (p * (q * (over t s).den)) ≡ a +ℚ b
unfolding ◌+ℚ◌
top_value a b s p q t h =
    let u = over t s in
    let d : 0 < p * (q * u.den) = mul-pos (factor_positive p s a.den h.left (den_pos a)) (mul-pos (factor_positive q s b.den h.right (den_pos b)) (den_pos u)) in
    over-same u.num (a.num *ℤ pos b.den +ℤ b.num *ℤ pos a.den) (p * (q * u.den)) (a.den * b.den) d (mul-pos (den_pos a) (den_pos b))
    (rw (← h.left, ← h.right) (cross_value a.num b.num u.num s p q u.den (over-cross t s h.positive ∙ ap (λ (z : ℤ). z *ℤ pos u.den) h.top)))
  where
    cross_value : (m n x : ℤ) (s p q r : ℕ) → x *ℤ pos s ≡ (m *ℤ pos q +ℤ n *ℤ pos p) *ℤ pos r
        → x *ℤ pos ((p * s) * (q * s)) ≡ (m *ℤ pos (q * s) +ℤ n *ℤ pos (p * s)) *ℤ pos (p * (q * r))
    cross_value m n x s p q r e = let f = simp products at (ap (λ z. z *ℤ pos (s * p * q)) e) in simp products (omega (arith, linear, f))

-- the sum over the least common denominator, reduced by the common divisor of its numerator and of
-- s
pub summed : (a b : Ratio) (s p q : ℕ) (t : ℤ) → IsUnlike a b s p q t
    → IsLowest (int_div t (pos (gcd (nat_abs t) s))) (pos (p * (b.den / gcd (nat_abs t) s)))
    × (over (int_div t (pos (gcd (nat_abs t) s))) (p * (b.den / gcd (nat_abs t) s)) ≡ a +ℚ b)
summed a b s p q t h =
    let g = gcd (nat_abs t) s in
    let u = over t s in
    let e = over-parts t s h.positive in
    let some : 0 < g = gcd_pos (nat_abs t) s h.positive in
    let whole : s / g * g ≡ s = div-mul_cancel g (gcd-is (nat_abs t) s).1 in
    let rest : b.den / g ≡ q * u.den =
    ap (λ (k : ℕ). k / g) (sym h.right ∙ ap (λ (k : ℕ). q * k) (sym whole) ∙ sym (mul_assoc q (s / g) g))
    ∙ mul-div_cancel (q * (s / g)) some
    ∙ ap (λ (k : ℕ). q * k) (sym e.1)
    in
    let d : 0 < p * (q * u.den) = mul-pos (factor_positive p s a.den h.left (den_pos a)) (mul-pos (factor_positive q s b.den h.right (den_pos b)) (den_pos u)) in
    rw (sym e.0, rest) (
      record { den_positive = omega (arith, linear); lowest = lowest_in u.num (p * (q * u.den)) d (top_lowest a b s p q t h) },
      top_value a b s p q t h,
    )

pub shared_positive : (a b : Ratio) (s : ℤ) → s ≡ pos (gcd a.den b.den) → pos 0 <ℤ s
shared_positive a b s e = let h : 0 < gcd a.den b.den = gcd_pos a.den b.den (den_pos b) in rw e (omega (arith, linear))

-- the same for the integers that the code computes, one after another
pub summed_parts : (a b : Ratio) (s l r t g u v : ℤ) → s ≡ pos (gcd a.den b.den) → l ≡ int_div (pos a.den) s → r ≡ int_div (pos b.den) s
    → t ≡ a.num *ℤ r +ℤ b.num *ℤ l → g ≡ pos (gcd (nat_abs t) (nat_abs s)) → u ≡ int_div t g → v ≡ l *ℤ int_div (pos b.den) g
    → IsLowest u v × (over u (nat_abs v) ≡ a +ℚ b)
summed_parts a b s l r t g u v es el er et eg eu ev =
    let n = gcd a.den b.den in
    let el' : l ≡ pos (a.den / n) = el ∙ ap (int_div (pos a.den)) es in
    let er' : r ≡ pos (b.den / n) = er ∙ ap (int_div (pos b.den)) es in
    let et' : t ≡ a.num *ℤ pos (b.den / n) +ℤ b.num *ℤ pos (a.den / n) = et ∙ ap (λ (z : ℤ). a.num *ℤ z +ℤ b.num *ℤ l) er' ∙ ap (λ (z : ℤ). a.num *ℤ pos (b.den / n) +ℤ b.num *ℤ z) el' in
    let eg' : g ≡ pos (gcd (nat_abs t) n) = eg ∙ ap (λ (z : ℤ). pos (gcd (nat_abs t) (nat_abs z))) es in
    let eu' : u ≡ int_div t (pos (gcd (nat_abs t) n)) = eu ∙ ap (int_div t) eg' in
    let ev' : v ≡ pos (a.den / n * (b.den / gcd (nat_abs t) n)) = ev ∙ ap (λ (z : ℤ). z *ℤ int_div (pos b.den) g) el' ∙ ap (λ (z : ℤ). pos (a.den / n) *ℤ int_div (pos b.den) z) eg' in
    rw (eu', ev') (summed a b n (a.den / n) (b.den / n) t (unlike a b t et'))
