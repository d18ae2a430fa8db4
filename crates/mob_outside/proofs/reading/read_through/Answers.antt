use Rattle.std.proofs.Common.{rules}
use Rattle.mob_outside.proofs.Known.{reads_more}
use Rattle.mob_outside.proofs.reading.read_through.Goals as goal

pub returns-then-is_err-clause-part : goal.returns-then-is_err-clause-part
returns-then-is_err-clause-part g c =
    reads_more c.args.limit (g.T.Taking.left c.args.from.now) (g.T.Taking.left c.loop-chunk.from) (g.T.Taking.left c.take_from.new.from)
    c.loop-chunk.bytes.items _ c.in-Ok.count c.loop-chunk.invariant.taken c.in-Ok.ensures.bytes.0 (search rules)
