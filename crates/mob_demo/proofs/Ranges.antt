-- The numbers from one up to an end.
use Rattle.std.{specs.List.{range_with_len}, proofs.Common.{◌≡◌, ◌<◌, ◌≤◌, ◌+◌, ◌-◌, ◌∷◌, [], ℕ, suc, ap, arith}}

pub range_begins : (n end : ℕ) → n < end → range_with_len n (end - n) ≡ n ∷ range_with_len (n + 1) (end - (n + 1))
range_begins n end h = let e : end - n ≡ suc (end - (n + 1)) = omega arith in ap (range_with_len n) e

pub range_over : (n end : ℕ) → end ≤ n → range_with_len n (end - n) ≡ []
range_over n end h = let e : end - n ≡ 0 = omega arith in ap (range_with_len n) e
