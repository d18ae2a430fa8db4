use Rattle.std.proofs.Common.{◌≡◌, ◌++◌, length, map}
use Rattle.mob_trips.specs.Rows.{id_of, trip_of}
use Rattle.mob_trips.proofs.rows.split_rows.Given as goal

abbrev pub invariant-loop-left : goal.invariant-loop-left
invariant-loop-left l = record {
  ids : l.ids.items ++ map id_of l.left ≡ map id_of l.fn.rows;
  trips : l.trips.items ++ map trip_of l.left ≡ map trip_of l.fn.rows;
}

abbrev pub decreases-loop-left : goal.decreases-loop-left
decreases-loop-left l = length l.left
