use Rattle.std.proofs.Common.{drop}
use Rattle.mob_simplify.proofs.Stepping.{IsSkipping}
use Rattle.mob_simplify.proofs.skipping.walked_wide.Given as goal

abbrev pub invariant-loop-next : goal.invariant-loop-next
invariant-loop-next l = IsSkipping l.limit.distance l.slices l.first l.held.items l.sure l.last (drop l.next-index l.rest) l.legs.items
