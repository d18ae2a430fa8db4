use Rattle.std.proofs.Common.{rules}
use Rattle.mob_ending.{specs.Lines.{rows_text, statement_text}, proofs.Joined.{puts_cut, puts_cut_behind, puts_then}}
use Rattle.mob_ending.proofs.note.put_overflow.Goals as goal

pub returns-in_err-put_statement : goal.returns-in_err-put_statement
returns-in_err-put_statement g c = record {
  puts = puts_cut _ _ (statement_text c.args.statement) _ _ _ c.in_err-put_statement.ensures.part (search rules) (search rules);
}

pub returns-in_err-put_rows : goal.returns-in_err-put_rows
returns-in_err-put_rows g c = record {
  puts = puts_cut_behind _ (g.E.Sink.held c.put_statement.new.notes) _ (statement_text c.args.statement) (rows_text c.args.rows.now) _ _ (g.E.Sink.faults c.put_statement.new.notes) _ c.in_ok-put_statement.ensures.whole (search rules) c.in_err-put_rows.ensures.part (search rules) (search rules);
}

pub returns : goal.returns
returns g c = record {
  puts = puts_then _ (g.E.Sink.held c.put_statement.new.notes) _ (statement_text c.args.statement) _ _ (g.E.Sink.faults c.put_statement.new.notes) _ c.in_ok-put_statement.ensures.whole (search rules)
      (puts_then _ (g.E.Sink.held c.put_rows.new.notes) _ (rows_text c.args.rows.now) _ _ (g.E.Sink.faults c.put_rows.new.notes) _ c.in_ok-put_rows.ensures.whole (search rules) c.put_passes.ensures.puts);
}
