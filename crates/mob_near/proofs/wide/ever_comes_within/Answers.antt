use Rattle.std.{specs.List.{AllByRecursion}, specs.Prelude.{[], true, Some}, proofs.Common.{subst}}
use Rattle.mob_span.specs.Pieces.{PiecesAreClear}
use Rattle.mob_slice.specs.Sides.{operand_of, pieces, piece_of}
use Rattle.mob_lift.{specs.Pieces.{pieces_left}, specs.Sometime.{either}, proofs.Walking.{walking_end}}
use Rattle.mob_legs.specs.Legs.{piece_reaches}
use Rattle.mob_near.{proofs.OnPieces.{IsHeld}, proofs.Widely.{ever_is, hit_is}}
use Rattle.mob_near.proofs.wide.ever_comes_within.Goals as goal

pub returns : goal.returns
returns c =
    let a = operand_of c.args.a in
    let b = operand_of c.args.b in
    let all = pieces a b in
    let D = c.args.square.now in
    let clear = subst (PiecesAreClear (λ p. p.span)) c.new-piece-items.ensures.all c.new-piece-items.ensures.clear in
    let hold = subst (AllByRecursion IsHeld) c.new-piece-items.ensures.all c.new-piece-items.ensures.hold in
    let ended = walking_end either (piece_reaches D) (λ _. []) all (pieces_left c.loop-piece.piece-iterator) c.loop-piece.found c.in-None.ensures.steps.0 c.loop-piece.invariant.walking in
    record { value = ever_is a b c.requires.moving clear hold D c.args.d.now c.loop-piece.found c.requires.square ended.0 }

pub returns-then-here : goal.returns-then-here
returns-then-here c =
    let a = operand_of c.args.a in
    let b = operand_of c.args.b in
    let all = pieces a b in
    let D = c.args.square.now in
    let clear = subst (PiecesAreClear (λ p. p.span)) c.new-piece-items.ensures.all c.new-piece-items.ensures.clear in
    let hold = subst (AllByRecursion IsHeld) c.new-piece-items.ensures.all c.new-piece-items.ensures.hold in
    record { value = ever_is a b c.requires.moving clear hold D c.args.d.now (Some true) c.requires.square (hit_is (piece_reaches D) all (pieces_left c.loop-piece.piece-iterator) (pieces_left c.next.new.self) c.loop-piece.found (piece_of c.in-Some.piece) c.in-Ok.here c.in-Some.ensures.steps c.in-Ok.ensures.value c.if-here.true c.loop-piece.invariant.walking) }
