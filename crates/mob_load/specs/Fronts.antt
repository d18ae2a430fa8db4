-- The files that a script copies, and the names that it asks for.
use Rattle.std.specs.Prelude.{◌≡◌, ◌⊎◌, ◌≤◌, ◌++◌, ⊤, ℕ, List, [], take, length, slice_get, Option, Some, None}
use Rattle.mob_outside.specs.Told.{Contents}

-- The files of a script that copies the files of these names: those that are visible; or any, if it
-- copies none.
abbrev pub AreFilesFor : List (List ℕ) → Option Contents → Contents → Type 0
AreFilesFor names told files = (told ≡ Some files) ⊎ (names ≡ [])

-- what holds of the files of a script that copies the files of these names
abbrev pub OnFiles : List (List ℕ) → Option Contents → (Contents → Type 0) → Type 0
OnFiles names told P = (files : Contents) → AreFilesFor names told files → P files

-- the names asked for, if they are visible, grow by these at their end
abbrev pub AsksForAll : List (List ℕ) → Option (List (List ℕ)) → Option (List (List ℕ)) → Type 0
AsksForAll names None new = ⊤
AsksForAll names (Some old) new = new ≡ Some (old ++ names)

-- the names asked for grow by the first few of these
abbrev pub AsksForSome : List (List ℕ) → Option (List (List ℕ)) → Option (List (List ℕ)) → Type 0
AsksForSome names old new = (k : ℕ) × (k ≤ length names) × AsksForAll (take k names) old new

-- This is the name of this number, counted from 0, and the names asked for grow by the first
-- `count` of the names.
pub record IsAskedLast (names : List (List ℕ)) (number count : ℕ) (old new : Option (List (List ℕ))) (name : List ℕ) : Type 0 where
  pub there : slice_get names number ≡ Some name
  pub asked : AsksForAll (take count names) old new
