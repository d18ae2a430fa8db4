use Rattle.std.proofs.Common.{drop}
use Rattle.mob_tile_run.proofs.Tiling.{IsTiling}
use Rattle.mob_tile_run.proofs.parts.part_records.Given as goal

abbrev pub invariant-loop-trip : goal.invariant-loop-trip
invariant-loop-trip l = IsTiling l.grid l.epoch l.ids l.trips (drop l.trip-index l.trips) l.records l.row
