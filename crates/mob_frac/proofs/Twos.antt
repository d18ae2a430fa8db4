-- Greatest common divisors of odd numbers, and of numbers without their factors of 2.
use Rattle.std.specs.Int.{IsGcd, bit_at, w64, trailing_zeros, ◌∣◌}
use Rattle.std.proofs.Common.{◌≡◌, ℕ, zero, suc, ◌+◌, ◌-◌, ◌*◌, ◌/◌, ◌%◌, ◌^◌, ◌<◌, ◌≤◌, min, arith, ap, sym, subst, ◌∙◌, mod-eq_of_lt, pow-suc, mul_assoc, mul_comm, ◌⊎◌, inl, inr}
use Rattle.std.{proofs.lemmas.Nat.{shr_split, mod-pow-add, pow_pos, pow-add}, proofs.lemmas.Nat.Bits.{bit_at_lowest, bit_at-suc, bit_at-trailing_zeros}}
use Rattle.std.{proofs.lemmas.Nat.Gcd.{dvd_refl, IsGcd-swap, IsGcd-from_sub, IsGcd-from_mod, IsGcd-from_zero, same_from_IsGcd}, proofs.lemmas.Bool.{cases_lt}}
use Rattle.mob_ratio.{specs.Gcd.{gcd}, specs.GcdLaws.{gcd-is, gcd_comm, gcd-mul, gcd_one_right, gcd_le, dvd_of_coprime}, proofs.ProductLemmas.{coprime-mul, coprime-dvd}}
use native.Mathlib.Nat.{dvd-mul_right_of_dvd}

-- if the low bits are all 0, the remainder is 0
low_zero : (t n : ℕ) → ((i : ℕ) → i < t → bit_at n i ≡ 0) → n % 2 ^ t ≡ 0
low_zero zero n h = omega arith
low_zero (suc t) n h =
    let first : n % 2 ≡ 0 = sym (bit_at_lowest n) ∙ h 0 (omega arith) in
    let later : n / 2 % 2 ^ t ≡ 0 = low_zero t (n / 2) (λ i lt. sym (bit_at-suc n i) ∙ h (suc i) (omega arith)) in
    let split : n % 2 ^ (t + 1) ≡ (n / 2 % 2 ^ t) * 2 + n % 2 = mod-pow-add n t 1 in
    let next : suc t ≡ t + 1 = omega arith in
    ap (λ (m : ℕ). n % 2 ^ m) next ∙ split ∙ omega (arith, first, later)

pub odd_part_is : (n : ℕ) → 0 < n → n < 2 ^ 64 → (n / 2 ^ trailing_zeros w64 n % 2 ≡ 1) × (n / 2 ^ trailing_zeros w64 n * 2 ^ trailing_zeros w64 n ≡ n)
odd_part_is n some fits =
    let h = bit_at-trailing_zeros w64 n some fits in
    let t = trailing_zeros w64 n in
    let low : n % 2 ^ t ≡ 0 = low_zero t n h.2 in
    (h.1, (let e = shr_split n t in omega (arith, e, low)))

odd_two : (x : ℕ) → x % 2 ≡ 1 → gcd x 2 ≡ 1
odd_two x h =
    let last : IsGcd 2 1 1 = subst (λ (g : ℕ). IsGcd 2 1 g) (gcd_one_right 2) (gcd-is 2 1) in
    same_from_IsGcd x 2 (gcd x 2) 1 (gcd-is x 2) (IsGcd-from_mod x 2 1 (rw h last))

odd_pow : (k x : ℕ) → x % 2 ≡ 1 → gcd x (2 ^ k) ≡ 1
odd_pow zero x h = gcd_one_right x
odd_pow (suc k) x h = ap (gcd x) (pow-suc 2 k) ∙ coprime-mul x (2 ^ k) 2 (odd_pow k x h) (odd_two x h)

-- factors of 2 in one number do not divide an odd one
odd_twos : (k x y g : ℕ) → x % 2 ≡ 1 → IsGcd x y g → IsGcd x (y * 2 ^ k) g
odd_twos k x y g h is = (
  is.0,
  dvd-mul_right_of_dvd g is.1 (2 ^ k),
  λ d p q. is.2 d p (dvd_of_coprime d (2 ^ k) y (coprime-dvd x d (2 ^ k) p (odd_pow k x h)) (subst (λ (n : ℕ). d ∣ n) (mul_comm y (2 ^ k)) q)),
)

-- one step: the smaller of two odd numbers, and the odd part of their difference
pub odd_step : (k x y rest g : ℕ) → x % 2 ≡ 1 → y % 2 ≡ 1 → rest * 2 ^ k ≡ (x - y) + (y - x) → IsGcd (min x y) rest g → IsGcd x y g
odd_step k x y rest g hx hy e is = by (cases_lt x y)
  where
    by : (x < y) ⊎ (y ≤ x) → IsGcd x y g
    by (inl lt) =
        let least : min x y ≡ x = omega arith in
        let apart : (x - y) + (y - x) ≡ y - x = omega arith in
        let i : IsGcd x rest g = rw least at is in
        let j : IsGcd x (y - x) g = rw (e ∙ apart) at (odd_twos k x rest g hx i) in
        IsGcd-swap y x g (IsGcd-from_sub y x g (omega arith) (IsGcd-swap x (y - x) g j))
    by (inr le) =
        let least : min x y ≡ y = omega arith in
        let apart : (x - y) + (y - x) ≡ x - y = omega arith in
        let i : IsGcd y rest g = rw least at is in
        let j : IsGcd y (x - y) g = rw (e ∙ apart) at (odd_twos k y rest g hy i) in
        IsGcd-from_sub x y g le (IsGcd-swap y (x - y) g j)

gcd_twos : (k x y : ℕ) → x % 2 ≡ 1 → gcd x (y * 2 ^ k) ≡ gcd x y
gcd_twos k x y h = same_from_IsGcd x (y * 2 ^ k) (gcd x (y * 2 ^ k)) (gcd x y) (gcd-is x (y * 2 ^ k)) (odd_twos k x y (gcd x y) h (gcd-is x y))

few_twos : (i j x y : ℕ) → i ≤ j → x % 2 ≡ 1 → gcd (x * 2 ^ i) (y * 2 ^ j) ≡ gcd x y * 2 ^ i
few_twos i j x y le h =
    let e : y * 2 ^ j ≡ (y * 2 ^ (j - i)) * 2 ^ i =
    let s : (j - i) + i ≡ j = omega arith in
    ap (λ (n : ℕ). y * 2 ^ n) (sym s) ∙ ap (λ (n : ℕ). y * n) (pow-add 2 (j - i) i) ∙ sym (mul_assoc y (2 ^ (j - i)) (2 ^ i))
    in
    ap (gcd (x * 2 ^ i)) e ∙ gcd-mul x (y * 2 ^ (j - i)) (2 ^ i) (pow_pos i) ∙ ap (λ (n : ℕ). n * 2 ^ i) (gcd_twos (j - i) x y h)

-- the common factors of 2 are a common divisor
pub twos_apart : (i j x y a b : ℕ) → x % 2 ≡ 1 → y % 2 ≡ 1 → x * 2 ^ i ≡ a → y * 2 ^ j ≡ b → gcd x y * 2 ^ min i j ≡ gcd a b
twos_apart i j x y a b hx hy ea eb = by (cases_lt i j) ∙ ap (λ (n : ℕ). gcd n (y * 2 ^ j)) ea ∙ ap (gcd a) eb
  where
    by : (i < j) ⊎ (j ≤ i) → gcd x y * 2 ^ min i j ≡ gcd (x * 2 ^ i) (y * 2 ^ j)
    by (inl lt) =
        let least : min i j ≡ i = omega arith in
        ap (λ (n : ℕ). gcd x y * 2 ^ n) least ∙ sym (few_twos i j x y (omega arith) hx)
    by (inr le) =
        let least : min i j ≡ j = omega arith in
        ap (λ (n : ℕ). gcd x y * 2 ^ n) least ∙ ap (λ (n : ℕ). n * 2 ^ j) (gcd_comm x y) ∙ sym (few_twos j i y x le hy) ∙ gcd_comm (y * 2 ^ j) (x * 2 ^ i)

pub odd_least : (x y : ℕ) → x % 2 ≡ 1 → y % 2 ≡ 1 → min x y % 2 ≡ 1
odd_least x y hx hy = by (cases_lt x y)
  where
    by : (x < y) ⊎ (y ≤ x) → min x y % 2 ≡ 1
    by (inl lt) = let least : min x y ≡ x = omega arith in rw least hx
    by (inr le) = let least : min x y ≡ y = omega arith in rw least hy

-- the divisor fits if one of the numbers does, so shifting it loses no bits
pub shifted : (i j m x y r a b : ℕ) → 0 < b → b < 2 ^ 64 → x % 2 ≡ 1 → y % 2 ≡ 1 → x * 2 ^ i ≡ a → y * 2 ^ j ≡ b → r ≡ gcd x y → m ≡ min i j → (r * 2 ^ m) % 2 ^ 64 ≡ gcd a b
shifted i j m x y r a b some fits hx hy ea eb er em =
    let e : r * 2 ^ m ≡ gcd a b = rw (er, em) (twos_apart i j x y a b hx hy ea eb) in
    let l : gcd a b ≤ b = gcd_le a b some in
    let below : gcd a b < 2 ^ 64 = omega (arith, l) in
    ap (λ (n : ℕ). n % 2 ^ 64) e ∙ mod-eq_of_lt below

-- two equal numbers are their own divisor
pub gcd_same : (a b x y : ℕ) → x ≡ y → ((g : ℕ) → IsGcd x y g → IsGcd a b g) → x ≡ gcd a b
gcd_same a b x y e f =
    let own : IsGcd x x x = (dvd_refl x, dvd_refl x, λ d p q. p) in
    same_from_IsGcd a b x (gcd a b) (f x (subst (λ (n : ℕ). IsGcd x n x) e own)) (gcd-is a b)

pub gcd_zero_right : (a b : ℕ) → b ≡ 0 → a ≡ gcd a b
gcd_zero_right a b e = same_from_IsGcd a b a (gcd a b) (IsGcd-from_zero a b e) (gcd-is a b)

pub gcd_zero_left : (a b : ℕ) → a ≡ 0 → b ≡ gcd a b
gcd_zero_left a b e = gcd_zero_right b a e ∙ gcd_comm b a

-- a remainder has the same greatest common divisor with the divisor as the dividend
pub gcd_rest : (a b : ℕ) → gcd b (a % b) ≡ gcd a b
gcd_rest a b = same_from_IsGcd a b (gcd b (a % b)) (gcd a b) (IsGcd-from_mod a b (gcd b (a % b)) (gcd-is b (a % b))) (gcd-is a b)
