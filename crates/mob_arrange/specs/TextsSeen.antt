-- The texts that a vector borrows or owns.
use Rattle.std.{specs.Prelude.{ℕ, List, map, string_bytes}, specs.Borrow.{Bor}, specs.declared.string.String.{String}, specs.declared.vec.Vec.{Vec}}

abbrev pub texts_of : {A : Type 0} → Vec (Bor (List ℕ)) A → List (List ℕ)
texts_of v = map (λ b. b.now) v.items

abbrev pub strings_of : {A B : Type 0} → Vec (String A) B → List (List ℕ)
strings_of v = map (λ s. string_bytes s) v.items
