use Rattle.std.proofs.Common.{drop}
use Rattle.mob_simplify.proofs.Sifting.{IsTesting}
use Rattle.mob_simplify.proofs.holding.passes_wide.Given as goal

abbrev pub invariant-loop-b : goal.invariant-loop-b
invariant-loop-b l = IsTesting l.limit.distance l.p l.held (drop l.b-index l.held) l.n
