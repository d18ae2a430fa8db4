-- The text so far, and the positions that are still to be written.
use Rattle.std.proofs.Common.{◌≡◌, ◌++◌, string_bytes}
use Rattle.mob_demo.proofs.Positions.{positions_from}
use Rattle.mob_demo.proofs.table.push_positions.Given as goal

abbrev pub invariant-loop-minute : goal.invariant-loop-minute
invariant-loop-minute l = string_bytes l.into ++ positions_from l.minute l.ship ≡ string_bytes l.initial.into ++ positions_from 1 l.ship
