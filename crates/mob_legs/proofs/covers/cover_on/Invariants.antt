use Rattle.std.proofs.Common.{◌∷◌, length}
use Rattle.mob_legs.proofs.Covering.{IsExtending}
use Rattle.mob_legs.proofs.covers.cover_on.Given as goal

abbrev pub invariant-slices : goal.invariant-slices
invariant-slices l = IsExtending l.start (l.first ∷ l.slices) l.rest l.cover

abbrev pub decreases-slices : goal.decreases-slices
decreases-slices l = length l.rest
