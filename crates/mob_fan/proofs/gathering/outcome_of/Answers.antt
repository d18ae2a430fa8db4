use Rattle.std.{proofs.Common.{Some, refl, arith}, proofs.lemmas.List.Elements.{All-pop}, proofs.lemmas.List.Sorted.{All-permutation}}
use Rattle.mob_fan.specs.Pieces.{IsRangePiece}
use Rattle.mob_fan.proofs.gathering.outcome_of.Goals as goal

pub loop-piece-init : goal.loop-piece-init
loop-piece-init g c =
    (All-permutation (IsRangePiece g.W.Work.size_of g.W.Work.comes c.args.work.now) c.args.pieces.items c.sort.new.pieces.items c.in_ok-sort.ensures.same c.requires.pieces, record { range = omega arith; outcome = refl })

pub next_joined-requires-clause-piece : goal.next_joined-requires-clause-piece
next_joined-requires-clause-piece g c κs within =
    (All-pop (IsRangePiece g.W.Work.size_of g.W.Work.comes c.args.work.now) c.loop-piece.pieces.items c.pop.new.self.items (Some c.in-Some.piece) c.in-Some.ensures.items c.loop-piece.invariant.0).1

pub loop-piece-preserved : goal.loop-piece-preserved
loop-piece-preserved g c =
    ((All-pop (IsRangePiece g.W.Work.size_of g.W.Work.comes c.args.work.now) c.loop-piece.pieces.items c.pop.new.self.items (Some c.in-Some.piece) c.in-Some.ensures.items c.loop-piece.invariant.0).0, c.in_ok-so_far.ensures.joined)
