use Rattle.mob_slice.specs.Sides.{piece_of}
use Rattle.mob_lift.proofs.OnPieces.{step_given}
use Rattle.mob_arith.proofs.operate.on_steps.Goals as goal

pub returns : goal.returns
returns g c = record { given = step_given g.A.Course.value_of g.B.Course.value_of (piece_of c.args.piece.now) _ _ (c.start.ensures.steady c.requires.left) (c.start-2.ensures.steady c.requires.right) g.O.Operation.result_of (λ v. v.items) _ c.single.result c.lower.ensures.some c.in_ok-value.ensures.answer c.single.ensures.one }
