-- Numbers scaled by powers of ten.
use Rattle.std.{proofs.Common.{◌≡◌, ℕ, ◌+◌, ◌-◌, ◌*◌, ◌^◌, ◌<◌, ◌≤◌, Bool, nat_abs, sym, ap, ◌∙◌, arith}, proofs.Math.Nat.{pow-le-pow_right, one-le-pow, le-mul_of_pos_right}}
use Rattle.std.proofs.lemmas.Nat.{pow-add}
use Rattle.mob_ratio.{specs.GcdLaws.{gcd_one_right}, specs.LowestLaws.{lowest_in}, specs.Ratio.{over}, proofs.RatioLemmas.{over-same, over-lowest}}
use Rattle.mob_frac.{specs.Fits.{Fits}, specs.Signed.{signed}, proofs.Shares.{abs-signed, cross}}

pub ten_pos : (k : ℕ) → 0 < 10 ^ k
ten_pos k = one-le-pow k 10 (omega arith)

pub ten_le : (j k : ℕ) → j ≤ k → 10 ^ j ≤ 10 ^ k
ten_le j k le = pow-le-pow_right {n = 10} (omega arith) le

pub signed_same : (negative : Bool) (m n x y : ℕ) → 0 < x → 0 < y → m * y ≡ n * x → over (signed negative m) x ≡ over (signed negative n) y
signed_same negative m n x y p q e = over-same (signed negative m) (signed negative n) x y p q (cross negative m n y x e)

-- a whole number that fits is below 2 to the 62nd
pub whole_fit : (negative : Bool) (n : ℕ) → Fits (over (signed negative n) 1) → n < 2 ^ 62
whole_fit negative n f =
    let l = lowest_in (signed negative n) 1 (omega arith) (gcd_one_right (nat_abs (signed negative n))) in
    let e = (over-lowest (signed negative n) 1 l).0 in
    rw (e, abs-signed negative n) at f.num_fits

pub raised_wide : (negative : Bool) (size up : ℕ) → 2 ^ 62 ≤ size → Fits (over (signed negative (size * 10 ^ up)) 1) → ⊥
raised_wide negative size up wide f =
    let a = whole_fit negative (size * 10 ^ up) f in
    let b = le-mul_of_pos_right size (ten_pos up) in
    omega (arith, a, b)

split : (size up down : ℕ) → down ≤ up → size * 10 ^ up ≡ (size * 10 ^ (up - down)) * 10 ^ down
split size up down le =
    let e : up ≡ (up - down) + down = omega arith in
    ap (λ (k : ℕ). size * 10 ^ k) e ∙ ap (λ (n : ℕ). size * n) (pow-add 10 (up - down) down) ∙ regroup size (10 ^ (up - down)) (10 ^ down)
  where
    regroup : (a b c : ℕ) → a * (b * c) ≡ (a * b) * c
    regroup a b c = omega arith

one_times : (a b : ℕ) → a ≡ b → a * 1 ≡ b
one_times a b e = omega (arith, e)

pub up_wins : (negative : Bool) (size up down : ℕ) → down ≤ up → over (signed negative (size * 10 ^ up)) (10 ^ down) ≡ over (signed negative (size * 10 ^ (up - down))) 1
up_wins negative size up down le = signed_same negative (size * 10 ^ up) (size * 10 ^ (up - down)) (10 ^ down) 1 (ten_pos down) (omega arith) (one_times _ _ (split size up down le))

lift : (size up down : ℕ) → up ≤ down → (size * 10 ^ up) * 10 ^ (down - up) ≡ size * 10 ^ down
lift size up down le =
    let e : up + (down - up) ≡ down = omega arith in
    regroup size (10 ^ up) (10 ^ (down - up)) ∙ ap (λ (n : ℕ). size * n) (sym (pow-add 10 up (down - up))) ∙ ap (λ (k : ℕ). size * 10 ^ k) e
  where
    regroup : (a b c : ℕ) → (a * b) * c ≡ a * (b * c)
    regroup a b c = omega arith

pub down_wins : (negative : Bool) (size up down : ℕ) → up ≤ down → over (signed negative (size * 10 ^ up)) (10 ^ down) ≡ over (signed negative size) (10 ^ (down - up))
down_wins negative size up down le = signed_same negative (size * 10 ^ up) size (10 ^ down) (10 ^ (down - up)) (ten_pos down) (ten_pos (down - up)) (lift size up down le)

pub halves : (down : ℕ) → 27 < down → 10 ^ 27 * 10 ^ (down - 27) ≡ 10 ^ down
halves down lt = let e : 27 + (down - 27) ≡ down = omega arith in sym (pow-add 10 27 (down - 27)) ∙ ap (λ (k : ℕ). 10 ^ k) e
