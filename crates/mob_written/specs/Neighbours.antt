-- Lists in which all pairs of neighbours pass a test.
use Rattle.std.specs.Prelude.{List, [], ◌∷◌, Bool, true, ◌&&◌}

abbrev pub all_neighbours : {A : Type 0} → (A → A → Bool) → List A → Bool
all_neighbours test [] = true
all_neighbours test (x ∷ []) = true
all_neighbours test (x ∷ y ∷ xs) = test x y && all_neighbours test (y ∷ xs)
