-- A whole number and a part of one.
use Rattle.std.{proofs.Common.{◌≡◌, ℕ, ◌*◌, ◌/◌, ◌^◌, ◌<◌, ◌≤◌, ℤ, pos, neg_ℤ, nat_abs, sym, ap, ◌∙◌, arith}, proofs.Math.Nat.{div-le_self, div-le_of_le-mul, mul-pos, mul-le-mul_left, mul_comm}}
use Rattle.mob_ratio.{specs.Gcd.{gcd}, specs.GcdLaws.{gcd_one_right, gcd-is}, specs.LowestLaws.{lowest_in}, specs.Ratio.{Ratio, over, whole, ◌+ℚ◌, ◌/ℚ◌, neg_ℚ}, proofs.Divide.{over-pos}}
use Rattle.mob_ratio.{proofs.RatioLemmas.{over-lowest, over-parts, den_pos}, proofs.Field.{add_comm, add_assoc, add_zero, sub_self}}
use Rattle.mob_frac.specs.Fits.{Fits}
use native.Mathlib.Nat.{div-mul_cancel}

whole_parts : (n : ℤ) → ((whole n).num ≡ n) × ((whole n).den ≡ 1)
unfolding whole
whole_parts n = over-lowest n 1 (lowest_in n 1 (omega arith) (gcd_one_right (nat_abs n)))

pub whole_fits : (n : ℤ) → nat_abs n < 2 ^ 62 → Fits (whole n)
whole_fits n h = let p = whole_parts n in record { num_fits = rw p.0 h; den_fits = rw p.1 (omega arith) }

-- the numerator of a part is at most its denominator
part_le : (numerator denominator : ℕ) → numerator < denominator → nat_abs (over (pos numerator) denominator).num ≤ (over (pos numerator) denominator).den
part_le numerator denominator h =
    let p = over-parts (pos numerator) denominator (omega (arith, h)) in
    let e = div-mul_cancel (gcd numerator denominator) (gcd-is numerator denominator).1 in
    rw (p.0, p.1) (div-le_of_le-mul (gcd numerator denominator) (omega (arith, h, e, mul_comm (gcd numerator denominator) (denominator / gcd numerator denominator))))

den_le : (n : ℤ) (d : ℕ) → 0 < d → (over n d).den ≤ d
den_le n d h = rw ((over-parts n d h).1) (div-le_self d (gcd (nat_abs n) d))

sum_den : (a b : Ratio) → (a +ℚ b).den ≤ a.den * b.den
unfolding ◌+ℚ◌
sum_den a b = den_le _ (a.den * b.den) (mul-pos (den_pos a) (den_pos b))

neg_den : (a : Ratio) → (neg_ℚ a).den ≤ a.den
unfolding neg_ℚ
neg_den a = den_le (neg_ℤ a.num) a.den (den_pos a)

back : (w f : Ratio) → f ≡ (w +ℚ f) +ℚ neg_ℚ w
back w f = sym (ap (λ (x : Ratio). x +ℚ neg_ℚ w) (add_comm w f) ∙ add_assoc f w (neg_ℚ w) ∙ ap (λ (x : Ratio). f +ℚ x) (sub_self w) ∙ add_zero f)

-- the denominator of the part is at most that of the sum
part_den : (n : ℤ) (f : Ratio) → f.den ≤ (whole n +ℚ f).den
part_den n f =
    let w = whole n in
    let s = w +ℚ f in
    let a = sum_den s (neg_ℚ w) in
    let d = neg_den w in
    let one = (whole_parts n).1 in
    let b : (neg_ℚ w).den ≤ 1 = omega (arith, d, one) in
    let c : s.den * (neg_ℚ w).den ≤ s.den * 1 = mul-le-mul_left s.den b in
    let e : f.den ≡ (s +ℚ neg_ℚ w).den = ap (λ (x : Ratio). x.den) (back w f) in
    omega (arith, a, c, e)

pub part_fits : (n : ℤ) (numerator denominator : ℕ) → numerator < denominator → Fits (whole n +ℚ over (pos numerator) denominator) → Fits (over (pos numerator) denominator)
part_fits n numerator denominator h fits =
    let a = part_den n (over (pos numerator) denominator) in
    let b = part_le numerator denominator h in
    record { num_fits = omega (arith, a, b, fits.den_fits); den_fits = omega (arith, a, fits.den_fits) }

pub whole_over : (n : ℤ) → whole n ≡ whole n /ℚ whole (pos 1)
unfolding whole
whole_over n = over-pos n 1 (omega arith)
