use Rattle.std.proofs.Common.{◌≡◌, ◌+◌, length}
use Rattle.mob_legs.proofs.Covering.{IsMakingRuns}
use Rattle.mob_legs.proofs.covers.covers_on.Given as goal

abbrev pub invariant-runs : goal.invariant-runs
invariant-runs l = record {
  room : l.start + length l.rest ≡ length l.slices;
  making : IsMakingRuns l.slices l.rest l.start l.all.items;
}

abbrev pub decreases-runs : goal.decreases-runs
decreases-runs l = length l.rest
