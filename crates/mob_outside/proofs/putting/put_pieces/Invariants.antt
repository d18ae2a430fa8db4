use Rattle.std.{specs.Io.KnownBytes.{Appends}, specs.List.{concat}, proofs.Common.{◌≤◌, map, take}}
use Rattle.mob_outside.proofs.putting.put_pieces.Given as goal

abbrev pub invariant-loop-piece : goal.invariant-loop-piece
invariant-loop-piece g l = record {
  put : Appends (g.K.Sink.held l.fn.sink) (g.K.Sink.held l.sink) (concat (map (λ p. p.now) (take l.piece-index l.pieces)));
  later : g.K.Sink.faults l.fn.sink ≤ g.K.Sink.faults l.sink;
}
