-- Outcomes of neighbouring ranges, joined.
use Rattle.std.proofs.Common.{◌≡◌, List, [], Result, Ok, Err, refl, ap, append_assoc}
use Rattle.mob_fan.specs.Outcomes.{joined_outcomes}

-- no item before an outcome leaves it unchanged
pub nothing_before : {I F : Type 0} (r : Result (List I) F) → joined_outcomes (Ok []) r ≡ r
nothing_before (Ok items) = refl
nothing_before (Err fault) = refl

-- joining outcomes is associative
pub joined_three : {I F : Type 0} (r s t : Result (List I) F) → joined_outcomes (joined_outcomes r s) t ≡ joined_outcomes r (joined_outcomes s t)
joined_three (Ok xs) (Ok ys) (Ok zs) = ap Ok (append_assoc xs ys zs)
joined_three (Ok xs) (Ok ys) (Err fault) = refl
joined_three (Ok xs) (Err fault) t = refl
joined_three (Err fault) s t = refl
