use Rattle.std.proofs.Common.{rules}
use Rattle.mob_outside.proofs.Known.{puts_on}
use Rattle.mob_outside.proofs.putting.put_all.Goals as goal

pub loop-at-preserved : goal.loop-at-preserved
loop-at-preserved g c = record {
  put = puts_on (g.K.Sink.held c.args.sink.now) (g.K.Sink.held c.loop-at.sink) (g.K.Sink.held c.put.new.self)
      c.loop-at.at c.in_ok-at.field-0 c.args.text.now c.loop-at.invariant.put c.in_ok-at.ensures.bytes;
  within = search rules;
  later = search rules;
}
