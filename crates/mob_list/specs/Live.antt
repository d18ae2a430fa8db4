-- Numbers that are in a list, and a list without them.
use Rattle.std.{specs.Prelude.{◌∷◌, ◌==◌, ◌||◌, ℕ, Bool, false, not, List, []}, specs.List.{filter}}

-- a number is in a list
abbrev pub is_among : ℕ → List ℕ → Bool
is_among n [] = false
is_among n (m ∷ ms) = (m == n) || is_among n ms

-- the numbers that are not in another list
abbrev pub without : List ℕ → List ℕ → List ℕ
without gone rows = filter (λ n. not (is_among n gone)) rows
