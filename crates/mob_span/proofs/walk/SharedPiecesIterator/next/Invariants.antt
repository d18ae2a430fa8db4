use Rattle.std.proofs.Common.{◌≡◌, ◌+◌, length}
use Rattle.mob_span.{specs.Pieces.{PiecesAreClear}, specs.Walk.{meets_left}}
use Rattle.mob_span.proofs.walk.SharedPiecesIterator.next.Given as goal

abbrev pub invariant-walk : goal.invariant-walk
invariant-walk g l = record {
  left_order : PiecesAreClear g.X.Spanned.span_of l.self.lefts.now;
  right_order : PiecesAreClear g.Y.Spanned.span_of l.self.rights.now;
  same : meets_left g.X.Spanned.span_of g.Y.Spanned.span_of l.fn.self ≡ meets_left g.X.Spanned.span_of g.Y.Spanned.span_of l.self;
}

abbrev pub decreases-walk : goal.decreases-walk
decreases-walk g l = length l.self.lefts.now + length l.self.rights.now
