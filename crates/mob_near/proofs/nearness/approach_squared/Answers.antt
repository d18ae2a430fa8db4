use Rattle.std.{specs.List.{AllByRecursion}, proofs.Common.{sym, subst}, proofs.lemmas.Result.{err_from_is_err_and}}
use Rattle.mob_span.specs.Pieces.{PiecesAreClear}
use Rattle.mob_slice.{specs.Lines.{plane_value_of}, specs.Sides.{operand_of, pieces, piece_of, given_at}}
use Rattle.mob_lift.{specs.Pieces.{pieces_left}, proofs.Walking.{walking_end, walking_fails}}
use Rattle.mob_legs.specs.Legs.{nearest_of, piece_approach}
use Rattle.mob_near.{specs.Approaches.{IsApproach}, specs.Entries.{entries_of_approach}, proofs.OnPieces.{IsHeld, all_nearest}}
use Rattle.mob_near.proofs.AllNearest.{is_approach}
use Rattle.mob_near.proofs.nearness.approach_squared.Goals as goal

pub returns-clause-value : goal.returns-clause-value
returns-clause-value c =
    let a = operand_of c.args.a in
    let b = operand_of c.args.b in
    let all = pieces a b in
    let clear = subst (PiecesAreClear (λ p. p.span)) c.new-piece-items.ensures.all c.new-piece-items.ensures.clear in
    let hold = subst (AllByRecursion IsHeld) c.new-piece-items.ensures.all c.new-piece-items.ensures.hold in
    let ended = walking_end nearest_of piece_approach entries_of_approach all (pieces_left c.loop-piece.piece-iterator) c.loop-piece.nearest c.in-None.ensures.steps.0 c.loop-piece.invariant.walking in
    subst (λ o. IsApproach (given_at plane_value_of a) (given_at plane_value_of b) o) (sym ended.0) (is_approach a b c.requires.moving clear (all_nearest all clear hold))

pub returns-in_err-here-clause-first : goal.returns-in_err-here-clause-first
returns-in_err-here-clause-first c =
    let p = err_from_is_err_and c.from_residual.result c.from_residual.ensures.1 in
    rw (p.1, p.2) (walking_fails nearest_of piece_approach entries_of_approach (pieces (operand_of c.args.a) (operand_of c.args.b)) (pieces_left c.loop-piece.piece-iterator) (pieces_left c.next.new.self) c.loop-piece.nearest (piece_of c.in-Some.piece) c.in_err-here.field-0.0 c.in-Some.ensures.steps c.in_err-here.ensures.first c.loop-piece.invariant.walking)
