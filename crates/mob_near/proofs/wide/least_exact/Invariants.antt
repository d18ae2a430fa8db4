use Rattle.std.{specs.List.{AllByRecursion}, specs.Prelude.{[]}}
use Rattle.mob_span.specs.Pieces.{PiecesAreClear}
use Rattle.mob_lift.{specs.Pieces.{pieces_left}, proofs.Walking.{IsWalking}}
use Rattle.mob_slice.specs.Sides.{operand_of, pieces}
use Rattle.mob_legs.specs.Legs.{nearest_of, piece_approach}
use Rattle.mob_near.proofs.OnPieces.{IsHeld}
use Rattle.mob_near.proofs.wide.least_exact.Given as goal

abbrev pub invariant-loop-piece : goal.invariant-loop-piece
invariant-loop-piece l = record {
  goes : (goal.iterator-loop-piece).can_next l.piece-iterator;
  ends : (goal.iterator-loop-piece).is_finite l.piece-iterator;
  hold : AllByRecursion IsHeld (pieces_left l.piece-iterator);
  clear : PiecesAreClear (λ p. p.span) (pieces_left l.piece-iterator);
  walking : IsWalking nearest_of piece_approach (λ _. []) (pieces (operand_of l.fn.a) (operand_of l.fn.b)) (pieces_left l.piece-iterator) l.nearest;
}
