-- Each piece so far has the outcome of its range.
use Rattle.mob_fan.specs.Pieces.{AreRangePieces}
use Rattle.mob_fan.proofs.pieces.taken.Given as goal

abbrev pub invariant-loop : goal.invariant-loop
invariant-loop g l = AreRangePieces g.W.Work.size_of g.W.Work.comes l.work l.out.items
