-- The quotient of whole numbers, rounded down: the greatest that is at most their fraction.
use Rattle.std.{specs.Int.{int_div_euclid}, proofs.Common.{ℕ, ◌<◌, ℤ, pos, negsuc, ◌+ℤ◌, ◌*ℤ◌, ◌≤ℤ◌, ◌<ℤ◌, arith, sym, subst}, proofs.lemmas.Int.{ints}}
use Rattle.mob_ratio.proofs.IntRing.{add_mul}

pub quotient_from : (a : ℤ) (k : ℕ) → 0 < k → (int_div_euclid a (pos k) *ℤ pos k) ≤ℤ a
quotient_from (pos a) k h = omega (arith, ints)
quotient_from (negsuc a) k h = omega (arith, ints)

quotient_next : (a : ℤ) (k : ℕ) → 0 < k → a <ℤ ((int_div_euclid a (pos k) *ℤ pos k) +ℤ (pos 1 *ℤ pos k))
quotient_next (pos a) k h = omega (arith, ints)
quotient_next (negsuc a) k h = omega (arith, ints)

pub quotient_until : (a : ℤ) (k : ℕ) → 0 < k → a <ℤ ((int_div_euclid a (pos k) +ℤ pos 1) *ℤ pos k)
quotient_until a k h = subst (λ z. a <ℤ z) (sym (add_mul (int_div_euclid a (pos k)) (pos 1) (pos k))) (quotient_next a k h)
