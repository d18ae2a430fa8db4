-- What a run was given and what it did: its arguments, and the state of the table and of `out`
-- before and after it, as far as it is visible.
use Rattle.std.specs.Prelude.{ℕ, List}
use Rattle.mob_outside.specs.EndsSeen.{StreamSeen}

pub record TripsSeen : Type 0 where
  pub words : List (List ℕ)
  pub table : StreamSeen
  pub out : StreamSeen

abbrev pub trips_seen : List (List ℕ) → StreamSeen → StreamSeen → TripsSeen
trips_seen words table out = record { words = words; table = table; out = out }
