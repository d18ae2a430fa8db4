use Rattle.std.proofs.Common.{[]}
use Rattle.mob_slice.{specs.Sides.{piece_of, operand_of, pieces, HoldsPiece}, specs.Operands.{steady_value, steady_limit}, proofs.Yielded.{clear_along, all_along}}
use Rattle.mob_lift.{specs.Pieces.{pieces_left}, proofs.Overall.{whole}, proofs.OnPieces.{memory_only}}
use Rattle.mob_arith.proofs.operate.steps_of.Goals as goal

pub lift-requires-clause-clear : goal.lift-requires-clause-clear
lift-requires-clause-clear g c = clear_along piece_of pieces_left (λ p. p.span) c.new.result c.new.ensures.clear

pub lift-requires-clause-fit : goal.lift-requires-clause-fit
lift-requires-clause-fit g c = all_along piece_of pieces_left (HoldsPiece g.A.Course.start_of g.A.Course.end_of g.B.Course.start_of g.B.Course.end_of) c.new.result c.new.ensures.hold

pub lift-requires-clause-sound : goal.lift-requires-clause-sound
lift-requires-clause-sound g c = λ p v s h k.
    let on = (rw k.shows at k.says.met).0 in
    (on.ordered, on.inside)

pub returns : goal.returns
returns g c =
    let all = whole g.A.Course.value_of g.B.Course.value_of steady_value steady_limit steady_limit (λ v. v.items) g.O.Operation.result_of (λ p. []) pieces_left (λ v. v.items) c.new.result (operand_of c.args.a) (operand_of c.args.b) c.requires.moving c.new.ensures.all
    _ _ c.lift.result (λ p v k. rw k.1.shows at k.1.says.met) (λ f p k. k.1.says.met) c.lift.ensures.lifted c.lift.ensures.passed in
    record {
      slices = all.0;
      memory = memory_only (pieces (operand_of c.args.a) (operand_of c.args.b)) c.lift.result all.1;
    }
