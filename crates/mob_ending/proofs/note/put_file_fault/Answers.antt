use Rattle.std.{specs.Prelude.{codes}, proofs.Common.{rules}}
use Rattle.mob_ending.proofs.Joined.{puts_cut, puts_cut_behind, puts_then}
use Rattle.mob_ending.proofs.note.put_file_fault.Goals as goal

pub returns-in_err-put_all : goal.returns-in_err-put_all
returns-in_err-put_all g c = record {
  puts = puts_cut _ _ (codes "read fault: ") _ _ _ c.in_err-put_all.ensures.part (search rules) (search rules);
}

pub returns-in_err-put_all-2 : goal.returns-in_err-put_all-2
returns-in_err-put_all-2 g c =
    let part = rw c.as_bytes.ensures.value at c.in_err-put_all-2.ensures.part in
    record {
      puts = puts_cut_behind _ (g.E.Sink.held c.put_all.new.sink) _ (codes "read fault: ") _ _ _ (g.E.Sink.faults c.put_all.new.sink) _ c.in_ok-put_all.ensures.whole (search rules) part (search rules) (search rules);
    }

pub returns : goal.returns
returns g c =
    let whole = rw c.as_bytes.ensures.value at c.in_ok-put_all-2.ensures.whole in
    record {
      puts = puts_then _ (g.E.Sink.held c.put_all.new.sink) _ (codes "read fault: ") _ _ (g.E.Sink.faults c.put_all.new.sink) _ c.in_ok-put_all.ensures.whole (search rules)
          (puts_then _ (g.E.Sink.held c.put_all-2.new.sink) _ c.args.file.now _ _ (g.E.Sink.faults c.put_all-2.new.sink) _ whole (search rules) c.put_all-3.ensures.puts);
    }
