-- What a function gives for each entry of a list.
use Rattle.std.specs.Prelude.{◌≡◌, ◌⊎◌, List, [], ◌∷◌, Result, Ok, Err}

-- what it gives for each entry, in order, or the first fault
abbrev pub IsMadeOfEach : {X Y F : Type 0} → (X → Result Y F → Type 0) → List X → Result (List Y) F → Type 0
IsMadeOfEach R [] (Ok ys) = ys ≡ []
IsMadeOfEach R [] (Err f) = ⊥
IsMadeOfEach {X} {Y} {F} R (x ∷ xs) (Ok ys) = (y : Y) × R x (Ok y) × ((rest : List Y) × (ys ≡ y ∷ rest) × IsMadeOfEach R xs (Ok rest))
IsMadeOfEach {X} {Y} {F} R (x ∷ xs) (Err f) = R x (Err f) ⊎ ((y : Y) × R x (Ok y) × IsMadeOfEach R xs (Err f))
