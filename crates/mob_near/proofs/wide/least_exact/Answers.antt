use Rattle.std.{specs.List.{AllByRecursion}, specs.Prelude.{[]}, proofs.Common.{subst, ◌∙◌}}
use Rattle.mob_span.specs.Pieces.{PiecesAreClear}
use Rattle.mob_slice.specs.Sides.{operand_of, pieces}
use Rattle.mob_lift.{specs.Pieces.{pieces_left}, proofs.Walking.{walking_end}}
use Rattle.mob_legs.specs.Legs.{nearest_of, piece_approach}
use Rattle.mob_near.{proofs.OnPieces.{IsHeld}, proofs.Widely.{nearest_is, least_all}}
use Rattle.mob_near.proofs.wide.least_exact.Goals as goal

pub returns-clause-value : goal.returns-clause-value
returns-clause-value c =
    let a = operand_of c.args.a in
    let b = operand_of c.args.b in
    let clear = subst (PiecesAreClear (λ p. p.span)) c.new-piece-items.ensures.all c.new-piece-items.ensures.clear in
    let hold = subst (AllByRecursion IsHeld) c.new-piece-items.ensures.all c.new-piece-items.ensures.hold in
    let ended = walking_end nearest_of piece_approach (λ _. []) (pieces a b) (pieces_left c.loop-piece.piece-iterator) c.loop-piece.nearest c.in-None.ensures.steps.0 c.loop-piece.invariant.walking in
    nearest_is a b c.requires.moving clear hold c.loop-piece.nearest ended.0

pub returns-clause-least : goal.returns-clause-least
returns-clause-least c =
    let all = pieces (operand_of c.args.a) (operand_of c.args.b) in
    (walking_end nearest_of piece_approach (λ _. []) all (pieces_left c.loop-piece.piece-iterator) c.loop-piece.nearest c.in-None.ensures.steps.0 c.loop-piece.invariant.walking).0 ∙ least_all all
