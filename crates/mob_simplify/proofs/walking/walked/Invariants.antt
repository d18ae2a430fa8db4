use Rattle.std.proofs.Common.{drop}
use Rattle.mob_simplify.proofs.Along.{IsWalking}
use Rattle.mob_simplify.proofs.walking.walked.Given as goal

abbrev pub invariant-loop-next : goal.invariant-loop-next
invariant-loop-next l = IsWalking l.limit.distance l.slices l.first l.between.items l.last (drop l.next-index l.rest) l.legs.items
