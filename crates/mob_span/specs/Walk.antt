-- The walk over the pieces that two lists share.
use Rattle.std.specs.Prelude.{List}
use Rattle.mob_span.{specs.Span.{SpanOf}, specs.Meets.{PieceOf, shared_pieces}, specs.Pieces.{PiecesAreClear}, specs.declared.walk.Met.{Met}, specs.declared.walk.SharedPieces.{SharedPieces}}

-- the entries of the first and of the second list that are still ahead of the walk
abbrev pub lefts_of : {X Y : Type 0} → SharedPieces X Y → List X
lefts_of s = s.lefts.now

abbrev pub rights_of : {X Y : Type 0} → SharedPieces X Y → List Y
rights_of s = s.rights.now

-- both lists are in order of time
abbrev pub CanWalk : {X Y : Type 0} → (X → SpanOf) → (Y → SpanOf) → SharedPieces X Y → Type 0
CanWalk span span' s = PiecesAreClear span s.lefts.now × PiecesAreClear span' s.rights.now

-- a piece, as contracts see it
abbrev pub met_of : {X Y : Type 0} → Met X Y → PieceOf X Y
met_of m = record { span = m.span; left = m.left.now; right = m.right.now }

-- the pieces still to come: those that the rests of the two lists share
abbrev pub meets_left : {X Y : Type 0} → (X → SpanOf) → (Y → SpanOf) → SharedPieces X Y → List (PieceOf X Y)
meets_left span span' s = shared_pieces span span' s.lefts.now s.rights.now
