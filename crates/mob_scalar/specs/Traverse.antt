-- A partial function, applied to each entry of a list.
use Rattle.std.specs.Prelude.{List, [], ◌∷◌, Option, Some}
use Rattle.mob_language.specs.Readers.{◌>>=◌}

-- the values of f on a list, if it has one on each entry
abbrev pub traverse : {A C : Type 0} → (A → Option C) → List A → Option (List C)
traverse f [] = Some []
traverse f (x ∷ xs) = f x >>= λ y. traverse f xs >>= λ ys. Some (y ∷ ys)
