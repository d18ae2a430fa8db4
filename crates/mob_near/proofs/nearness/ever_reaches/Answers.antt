use Rattle.std.{specs.List.{AllByRecursion}, proofs.Common.{sym, subst}, proofs.lemmas.Result.{err_from_is_err_and}}
use Rattle.mob_ratio.{specs.Order.{up_to}, specs.Sign.{nil}, proofs.Order.{not-up_to-le}}
use Rattle.mob_span.specs.Pieces.{PiecesAreClear}
use Rattle.mob_slice.{specs.Lines.{plane_value_of}, specs.Sides.{operand_of, pieces, piece_of, given_at}}
use Rattle.mob_lift.{specs.Pieces.{pieces_left}, specs.Sometime.{IsEver, either}, proofs.Walking.{walking_end, walking_fails}, proofs.AllPieces.{is_ever}}
use Rattle.mob_legs.specs.Legs.{piece_reaches}
use Rattle.mob_near.{specs.Distances.{distance_squared}, specs.Entries.{entries_of_reach}, proofs.OnPieces.{IsHeld, all_reached}}
use Rattle.mob_near.proofs.nearness.ever_reaches.Goals as goal

pub returns-clause-value : goal.returns-clause-value
returns-clause-value c =
    let a = operand_of c.args.a in
    let b = operand_of c.args.b in
    let all = pieces a b in
    let D = c.args.square.now in
    let clear = subst (PiecesAreClear (λ p. p.span)) c.new-piece-items.ensures.all c.new-piece-items.ensures.clear in
    let hold = subst (AllByRecursion IsHeld) c.new-piece-items.ensures.all c.new-piece-items.ensures.hold in
    let ended = walking_end either (piece_reaches D) (entries_of_reach D) all (pieces_left c.loop-piece.piece-iterator) c.loop-piece.found c.in-None.ensures.steps.0 c.loop-piece.invariant.walking in
    subst (λ o. IsEver (λ x y. up_to (distance_squared x y) D) (given_at plane_value_of a) (given_at plane_value_of b) o) (sym ended.0)
    (is_ever plane_value_of plane_value_of a b c.requires.moving (λ x y. up_to (distance_squared x y) D) (piece_reaches D) clear (all_reached D (not-up_to-le nil D c.requires.square) all clear hold))

pub returns-in_err-here-clause-first : goal.returns-in_err-here-clause-first
returns-in_err-here-clause-first c =
    let p = err_from_is_err_and c.from_residual.result c.from_residual.ensures.1 in
    rw (p.1, p.2) (walking_fails either (piece_reaches c.args.square.now) (entries_of_reach c.args.square.now) (pieces (operand_of c.args.a) (operand_of c.args.b)) (pieces_left c.loop-piece.piece-iterator) (pieces_left c.next.new.self) c.loop-piece.found (piece_of c.in-Some.piece) c.in_err-here.field-0.0 c.in-Some.ensures.steps c.in_err-here.ensures.first c.loop-piece.invariant.walking)
