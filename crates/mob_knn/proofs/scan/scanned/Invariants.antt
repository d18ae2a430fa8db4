use Rattle.std.proofs.Common.{◌≡◌}
use Rattle.mob_slice.specs.Sides.{operand_of}
use Rattle.mob_knn.{specs.Nearest.{HasApproach}, proofs.Scanning.{IsScanning}}
use Rattle.mob_knn.proofs.scan.scanned.Given as goal

abbrev pub invariant-loop-trip : goal.invariant-loop-trip
invariant-loop-trip l = record {
  count : l.row ≡ l.trip-index;
  seen : IsScanning l.k l.row (HasApproach l.trips (operand_of l.asked)) l.best.items;
}
