use Rattle.std.{specs.List.{AllByRecursion}, specs.Prelude.{[], true, Some}, proofs.Common.{sym, subst}}
use Rattle.mob_span.{specs.Pieces.{PiecesAreClear}, specs.Flags.{same_bool}}
use Rattle.mob_lift.{specs.Pieces.{pieces_left}, specs.Sometime.{IsEver, either}, proofs.Walking.{walking_end}, proofs.AllPieces.{is_ever}}
use Rattle.mob_slice.specs.Sides.{operand_of, pieces, piece_of, given_at, HoldsPiece}
use Rattle.mob_compare.{specs.Met.{piece_meets}, proofs.OnPieces.{all_told}, proofs.Widely.{hit_is}}
use Rattle.mob_compare.proofs.ever.wide.sometime_wide.Goals as goal

pub returns : goal.returns
returns g c =
    let all = pieces (operand_of c.args.a) (operand_of c.args.b) in
    let meets = piece_meets g.C.Course.STEADY g.C.Course.value_of g.C.Course.start_of g.C.Compared.relation g.C.Compared.gaps_of c.args.rel c.args.want in
    let clear = subst (PiecesAreClear (λ p. p.span)) c.new-piece-items.ensures.all c.new-piece-items.ensures.clear in
    let hold = subst (AllByRecursion (HoldsPiece g.C.Course.start_of g.C.Course.end_of g.C.Course.start_of g.C.Course.end_of)) c.new-piece-items.ensures.all c.new-piece-items.ensures.hold in
    let ended = walking_end either meets (λ _. []) all (pieces_left c.loop-piece.piece-iterator) c.loop-piece.found c.in-None.ensures.steps.0 c.loop-piece.invariant.walking in
    record {
      value = subst (λ o. IsEver (λ x y. same_bool (g.C.Compared.relation c.args.rel x y) c.args.want) (given_at g.C.Course.value_of (operand_of c.args.a)) (given_at g.C.Course.value_of (operand_of c.args.b)) o) (sym ended.0)
          (is_ever g.C.Course.value_of g.C.Course.value_of (operand_of c.args.a) (operand_of c.args.b) c.requires.moving (λ x y. same_bool (g.C.Compared.relation c.args.rel x y) c.args.want) meets clear
          (all_told g.met.C.Course.laws g.met.C.Compared.laws c.args.rel c.requires.asked c.args.want all clear hold));
    }

pub returns-then-here : goal.returns-then-here
returns-then-here g c =
    let all = pieces (operand_of c.args.a) (operand_of c.args.b) in
    let meets = piece_meets g.C.Course.STEADY g.C.Course.value_of g.C.Course.start_of g.C.Compared.relation g.C.Compared.gaps_of c.args.rel c.args.want in
    let clear = subst (PiecesAreClear (λ p. p.span)) c.new-piece-items.ensures.all c.new-piece-items.ensures.clear in
    let hold = subst (AllByRecursion (HoldsPiece g.C.Course.start_of g.C.Course.end_of g.C.Course.start_of g.C.Course.end_of)) c.new-piece-items.ensures.all c.new-piece-items.ensures.hold in
    let hit = hit_is meets all (pieces_left c.loop-piece.piece-iterator) (pieces_left c.next.new.self) c.loop-piece.found (piece_of c.in-Some.piece) c.in-Ok.here c.in-Some.ensures.steps c.in-Ok.ensures.met c.if-here.true c.loop-piece.invariant.walking in
    record {
      value = subst (λ o. IsEver (λ x y. same_bool (g.C.Compared.relation c.args.rel x y) c.args.want) (given_at g.C.Course.value_of (operand_of c.args.a)) (given_at g.C.Course.value_of (operand_of c.args.b)) o) (sym hit)
          (is_ever g.C.Course.value_of g.C.Course.value_of (operand_of c.args.a) (operand_of c.args.b) c.requires.moving (λ x y. same_bool (g.C.Compared.relation c.args.rel x y) c.args.want) meets clear
          (all_told g.met.C.Course.laws g.met.C.Compared.laws c.args.rel c.requires.asked c.args.want all clear hold));
    }
