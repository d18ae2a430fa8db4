-- The instants at which a temporal boolean is true.
use Rattle.std.specs.Prelude.{Bool, false, Option, None, Some}

-- the value exists, and is true
abbrev pub is_true : Option Bool → Bool
is_true None = false
is_true (Some b) = b
