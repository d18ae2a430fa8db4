use Rattle.std.{specs.List.{AllByRecursion}, specs.Prelude.{[]}}
use Rattle.mob_lift.{specs.Pieces.{pieces_left}, specs.Sometime.{either}, proofs.Walking.{IsWalking}}
use Rattle.mob_slice.specs.Sides.{operand_of, pieces, HoldsPiece}
use Rattle.mob_compare.specs.Met.{piece_meets}
use Rattle.mob_compare.proofs.ever.wide.sometime_wide.Given as goal

abbrev pub invariant-loop-piece : goal.invariant-loop-piece
invariant-loop-piece g l = record {
  goes : (goal.iterator-loop-piece g).can_next l.piece-iterator;
  ends : (goal.iterator-loop-piece g).is_finite l.piece-iterator;
  hold : AllByRecursion (HoldsPiece g.C.Course.start_of g.C.Course.end_of g.C.Course.start_of g.C.Course.end_of) (pieces_left l.piece-iterator);
  walking : IsWalking either (piece_meets g.C.Course.STEADY g.C.Course.value_of g.C.Course.start_of g.C.Compared.relation g.C.Compared.gaps_of l.rel l.want) (λ _. []) (pieces (operand_of l.fn.a) (operand_of l.fn.b)) (pieces_left l.piece-iterator) l.found;
}
