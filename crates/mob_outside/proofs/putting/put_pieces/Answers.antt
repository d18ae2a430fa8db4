use Rattle.std.proofs.Common.{rules, inr}
use Rattle.mob_outside.proofs.Pieces.{pieces_on, pieces_part}
use Rattle.mob_outside.proofs.putting.put_pieces.Goals as goal

pub returns-in_err-put_all-clause-part : goal.returns-in_err-put_all-clause-part
returns-in_err-put_all-clause-part g c =
    let part = pieces_part (g.K.Sink.held c.args.sink.now) (g.K.Sink.held c.loop-piece.sink) (g.K.Sink.held c.put_all.new.sink) c.args.pieces.now c.loop-piece.piece-index _ c.loop-piece-test.true c.loop-piece.invariant.put c.in_err-put_all.ensures.part in
    search (rules, part)

pub returns-in_err-put_all-clause-puts : goal.returns-in_err-put_all-clause-puts
returns-in_err-put_all-clause-puts g c =
    let part = pieces_part (g.K.Sink.held c.args.sink.now) (g.K.Sink.held c.loop-piece.sink) (g.K.Sink.held c.put_all.new.sink) c.args.pieces.now c.loop-piece.piece-index _ c.loop-piece-test.true c.loop-piece.invariant.put c.in_err-put_all.ensures.part in
    record { later = search rules; put = inr (search rules, part) }

pub loop-piece-preserved : goal.loop-piece-preserved
loop-piece-preserved g c = record {
  put = pieces_on (g.K.Sink.held c.args.sink.now) (g.K.Sink.held c.loop-piece.sink) (g.K.Sink.held c.put_all.new.sink) c.args.pieces.now c.loop-piece.piece-index _ c.loop-piece-test.true c.loop-piece.invariant.put c.in_ok-put_all.ensures.whole;
  later = search rules;
}
