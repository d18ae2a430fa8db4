use Rattle.std.proofs.Common.{◌+◌, arith, ap}
use Rattle.mob_slice.specs.Sides.{operand_of}
use Rattle.mob_knn.{specs.Nearest.{HasApproach}, proofs.Scanning.{scanned_next, scanned_end, scanning_rising, scanning_start}}
use Rattle.mob_knn.proofs.scan.scanned.Goals as goal

pub loop-trip-init : goal.loop-trip-init
loop-trip-init c = record { count = omega arith; seen = scanning_start c.args.k (HasApproach c.args.trips.now (operand_of c.args.asked.now)) c.new-best.result.items c.new-best.ensures.items }

pub consider-requires : goal.consider-requires
consider-requires c = record {
  asked = c.requires.asked;
  rising = scanning_rising c.args.k c.loop-trip.row (HasApproach c.args.trips.now (operand_of c.args.asked.now)) c.loop-trip.best.items c.loop-trip.invariant.seen;
  some = c.requires.some;
}

pub loop-trip-preserved : goal.loop-trip-preserved
loop-trip-preserved c =
    let at = c.loop-trip in
    let count = at.invariant.count in
    record {
      count = ap (λ n. n + 1) count;
      seen = scanned_next c.args.trips.now (operand_of c.args.asked.now) at.row c.args.k c.trip-item.result at.best.items c.consider.new.best.items (omega (arith, count)) (rw count c.trip-item.is) at.invariant.seen c.in_ok-consider.ensures.considered;
    }

pub returns : goal.returns
returns c = record { nearest = scanned_end c.args.trips.now (operand_of c.args.asked.now) c.args.k c.loop-trip.row c.loop-trip.best.items (let count = c.loop-trip.invariant.count in omega (arith, count)) c.loop-trip.invariant.seen }
