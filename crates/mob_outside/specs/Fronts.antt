-- What reading a named file up to a limit gives, and what it leaves.
use Rattle.std.specs.Prelude.{◌≡◌, ◌+◌, ℕ, List, take, Option, Some}
use Rattle.mob_outside.{specs.Told.{Contents, file_of}, specs.Streams.{ReadsPart}}

-- the front of the file with this name, up to one byte past the limit
abbrev pub IsFront : ℕ → List ℕ → Contents → List ℕ → Type 0
IsFront limit name files bytes = (whole : List ℕ) × (file_of name files ≡ Some whole) × (bytes ≡ take (limit + 1) whole)

-- the rest of the file with this name: at most one byte past the limit was read from its front
abbrev pub IsLeftOf : ℕ → List ℕ → Contents → Option (List ℕ) → Type 0
IsLeftOf limit name files left = (whole : List ℕ) × (file_of name files ≡ Some whole) × ReadsPart limit (Some whole) left
