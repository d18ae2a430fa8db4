-- The joined pieces have the outcome of their range, and so has each piece left.
use Rattle.std.proofs.Common.{length}
use Rattle.mob_fan.specs.Pieces.{AreRangePieces, IsGathered}
use Rattle.mob_fan.proofs.gathering.outcome_of.Given as goal

abbrev pub invariant-loop-piece : goal.invariant-loop-piece
invariant-loop-piece g l = AreRangePieces g.W.Work.size_of g.W.Work.comes l.work l.pieces.items × IsGathered g.W.Work.size_of g.W.Work.comes l.work l.so_far

abbrev pub decreases-loop-piece : goal.decreases-loop-piece
decreases-loop-piece g l = length l.pieces.items
