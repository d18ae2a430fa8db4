use Rattle.std.proofs.Common.{rules}
use Rattle.mob_ending.proofs.Joined.{puts_then}
use Rattle.mob_ending.proofs.note.put_table_refusal.Goals as goal

pub returns : goal.returns
returns g c =
    let whole = rw c.as_bytes.ensures.value at c.in_ok-put_all.ensures.whole in
    record { puts = puts_then _ (g.E.Sink.held c.put_all.new.sink) _ c.args.file.now _ _ (g.E.Sink.faults c.put_all.new.sink) _ whole (search rules) c.put_record.ensures.puts }
