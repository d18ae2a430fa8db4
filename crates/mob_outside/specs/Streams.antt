-- The bytes that reading up to a limit takes, and those that putting a text appends. Nothing is
-- claimed of an opaque stream.
use Rattle.std.{specs.Prelude.{◌⊎◌, ◌<◌, ◌≤◌, ◌+◌, ℕ, List, length, take, Option}, specs.Io.KnownBytes.{Appends, Consumes, IsAtEnd}}
use Rattle.mob_outside.specs.Faults.{Rose}

-- these bytes were taken from the front: at most one past the limit, and the whole rest if they do
-- not exceed the limit
pub record ReadsTo (limit : ℕ) (old new : Option (List ℕ)) (bytes : List ℕ) : Type 0 where
  pub taken : Consumes old new bytes
  pub bound : length bytes ≤ limit + 1
  pub whole : length bytes ≤ limit → IsAtEnd new

-- some bytes were taken from the front: at most one past the limit
pub record ReadsPart (limit : ℕ) (old new : Option (List ℕ)) : Type 0 where
  pub bytes : List ℕ
  pub taken : Consumes old new bytes
  pub bound : length bytes ≤ limit + 1

-- a proper prefix of the text was put
abbrev pub PutsPart : List ℕ → Option (List ℕ) → Option (List ℕ) → Type 0
PutsPart text old new = (n : ℕ) × (n < length text) × Appends old new (take n text)

-- the text was put, or a proper prefix of it if the count of faults rose
pub record Puts (text : List ℕ) (old new : Option (List ℕ)) (before now : ℕ) : Type 0 where
  pub later : before ≤ now
  pub put : Appends old new text ⊎ (Rose before now × PutsPart text old new)
