use Rattle.std.proofs.Common.{ap, ◌∙◌, subst}
use Rattle.mob_span.specs.Pieces.{PiecesAreClear}
use Rattle.mob_slice.specs.Sides.{operand_of, piece_of}
use Rattle.mob_lift.specs.Pieces.{pieces_left}
use Rattle.mob_legs.specs.Legs.{are_some}
use Rattle.mob_near.proofs.Answering.{common_exact, next_tells}
use Rattle.mob_near.proofs.nearness.share_time.Goals as goal

pub returns-clause-common : goal.returns-clause-common
returns-clause-common c =
    common_exact (operand_of c.args.a) (operand_of c.args.b) c.requires.moving c.is_some.result
    (c.is_some.ensures ∙ next_tells piece_of c.next.result (pieces_left c.new-pieces.result) (pieces_left c.next.new.self) c.next.ensures.steps ∙ ap are_some c.new-pieces.ensures.all)
    (subst (PiecesAreClear (λ p. p.span)) c.new-pieces.ensures.all c.new-pieces.ensures.clear)
