use Rattle.std.proofs.Common.{drop}
use Rattle.mob_simplify.proofs.Sifting.{IsSifting}
use Rattle.mob_simplify.proofs.holding.sifted.Given as goal

abbrev pub invariant-loop-b : goal.invariant-loop-b
invariant-loop-b l = IsSifting l.d l.p l.q l.held l.left.items (drop l.b-index l.held)
