-- The values of a partial function on a list, as a loop makes them.
use Rattle.std.proofs.Common.{◌≡◌, List, [], ◌∷◌, ◌++◌, Option, Some, None, option_map, refl, sym, ap, append_assoc, append-nil}
use Rattle.mob_language.specs.Readers.{◌>>=◌}
use Rattle.mob_scalar.specs.Traverse.{traverse}

-- the values made so far, and those still to be made
abbrev pub with_list : {C : Type 0} → List C → Option (List C) → Option (List C)
with_list front rest = option_map (λ ys. front ++ ys) rest

one_more : {C : Type 0} (front : List C) (y : C) (rest : Option (List C)) → with_list (front ++ y ∷ []) rest ≡ with_list front (rest >>= λ ys. Some (y ∷ ys))
one_more front y None = refl
one_more front y (Some ys) = ap Some (append_assoc front (y ∷ []) ys)

-- one more value
pub traverse_more : {A C : Type 0} (part : A → Option C) (front : List C) (items rest : List A) (x : A) (y : C) → items ≡ x ∷ rest → Some y ≡ part x → with_list (front ++ y ∷ []) (traverse part rest) ≡ with_list front (traverse part items)
traverse_more part front items rest x y left is = rw (left, sym is) (one_more front y (traverse part rest))

-- an entry without a value
pub traverse_fails : {A C : Type 0} (part : A → Option C) (front : List C) (items rest : List A) (x : A) → items ≡ x ∷ rest → None ≡ part x → None ≡ with_list front (traverse part items)
traverse_fails part front items rest x left is = rw (left, sym is) refl

-- no entry is left
pub traverse_ends : {A C : Type 0} (part : A → Option C) (front : List C) (items : List A) → items ≡ [] → Some front ≡ with_list front (traverse part items)
traverse_ends part front items none = rw none (ap Some (sym (append-nil front)))
