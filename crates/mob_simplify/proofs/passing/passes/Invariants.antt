use Rattle.std.proofs.Common.{drop}
use Rattle.mob_simplify.proofs.InTurn.{IsPassing}
use Rattle.mob_simplify.proofs.passing.passes.Given as goal

abbrev pub invariant-loop-b : goal.invariant-loop-b
invariant-loop-b l = IsPassing l.limit.distance l.p l.between (drop l.b-index l.between) l.n
