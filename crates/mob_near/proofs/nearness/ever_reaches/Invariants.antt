use Rattle.std.specs.List.{AllByRecursion}
use Rattle.mob_lift.{specs.Pieces.{pieces_left}, specs.Sometime.{either}, proofs.Walking.{IsWalking}}
use Rattle.mob_slice.specs.Sides.{operand_of, pieces}
use Rattle.mob_legs.specs.Legs.{piece_reaches}
use Rattle.mob_near.{specs.Entries.{entries_of_reach}, proofs.OnPieces.{IsHeld}}
use Rattle.mob_near.proofs.nearness.ever_reaches.Given as goal

abbrev pub invariant-loop-piece : goal.invariant-loop-piece
invariant-loop-piece l = record {
  goes : (goal.iterator-loop-piece).can_next l.piece-iterator;
  ends : (goal.iterator-loop-piece).is_finite l.piece-iterator;
  hold : AllByRecursion IsHeld (pieces_left l.piece-iterator);
  walking : IsWalking either (piece_reaches l.square) (entries_of_reach l.square) (pieces (operand_of l.fn.a) (operand_of l.fn.b)) (pieces_left l.piece-iterator) l.found;
}
