-- The rest after a prefix of a rest.
use Rattle.std.{proofs.Common.{◌≡◌, ℕ, ◌+◌, List, drop}, proofs.lemmas.List.{drop-drop}}

-- the rest after `n` more bytes begins `n` bytes further on
pub drop_rest : (n at : ℕ) (xs : List ℕ) → drop n (drop at xs) ≡ drop (at + n) xs
drop_rest n at xs = drop-drop n at xs
