-- The length of a number in digits.
use Rattle.std.{specs.Fmt.{decimal}, proofs.Common.{◌≡◌, ℕ, zero, suc, ◌%◌, ◌==◌, Some, get_or, refl, sym, inl, inr, ◌^◌, ◌<◌, ◌≤◌, length, arith, ap, ◌∙◌}, proofs.lemmas.Bool.{eqb-true, cases_lt}}
use Rattle.std.{proofs.lemmas.List.Quantifiers.{position-Some}, proofs.Math.Nat.{mod-eq_of_lt}, proofs.lemmas.Fmt.{decimal_is_IsNumeral, length-decimal-le}}
use Rattle.mob_scalar.specs.MomentText.{powers, places}
use Rattle.mob_numeral.proofs.Powers.{ten_le, ten_pos}

-- a number of at most six digits
pub record IsShort (k n : ℕ) : Type 0 where
  pub some : 1 ≤ length (decimal n)
  pub most : length (decimal n) ≤ k

pub decimal_short : (k n : ℕ) → 1 ≤ k → k ≤ 6 → n < 10 ^ k → IsShort k n
decimal_short k n one six h =
    let small : n < 2 ^ 64 = let a = ten_le k 6 six in omega (arith, a, h) in
    record { some = (decimal_is_IsNumeral n small).0.0; most = length-decimal-le k n one h small }

power_at : (k : ℕ) → k < 7 → get_or powers k 0 ≡ 10 ^ k
power_at zero h = refl
power_at (suc zero) h = refl
power_at (suc (suc zero)) h = refl
power_at (suc (suc (suc zero))) h = refl
power_at (suc (suc (suc (suc zero)))) h = refl
power_at (suc (suc (suc (suc (suc zero))))) h = refl
power_at (suc (suc (suc (suc (suc (suc zero)))))) h = refl
power_at (suc (suc (suc (suc (suc (suc (suc k))))))) h = absurd (omega arith)

divisor_le : (p d : ℕ) → 0 < p → p % d ≡ 0 → d ≤ p
divisor_le p d some e = elim (cases_lt p d) [
  | inl lt ↦ absurd (let a = mod-eq_of_lt lt in omega (arith, a, e, some))
  | inr ge ↦ ge
]

-- if k digits are exact for a fraction, its denominator divides 10^k
pub record IsPlaced (denominator k : ℕ) : Type 0 where
  pub most : k ≤ 6
  pub divides : 10 ^ k % denominator ≡ 0
  pub below : denominator ≤ 10 ^ k

pub placed : (denominator k : ℕ) → places denominator ≡ Some k → IsPlaced denominator k
unfolding places
placed denominator k e =
    let a = position-Some (λ power. power % denominator == 0) powers k 0 e in
    let within : k < 7 = a.0 in
    let at = power_at k within in
    let divides : 10 ^ k % denominator ≡ 0 = ap (λ (p : ℕ). p % denominator) (sym at) ∙ eqb-true (get_or powers k 0 % denominator) 0 a.1 in
    record { most = omega (arith, within); divides = divides; below = divisor_le (10 ^ k) denominator (ten_pos k) divides }
