use Rattle.std.proofs.Common.{rules}
use Rattle.mob_ending.{specs.Lines.{further_row}, proofs.Joined.{each_on, each_part}}
use Rattle.mob_ending.proofs.pieces.put_further_rows.Goals as goal

pub returns-in_err-put_further_row-clause-part : goal.returns-in_err-put_further_row-clause-part
returns-in_err-put_further_row-clause-part g c =
    let at = c.loop-row in
    let part = each_part further_row c.args.rows.now at.row-index 0 c.loop-row-test.true (g.E.Sink.held c.args.notes.now) (g.E.Sink.held at.notes) (g.E.Sink.held c.put_further_row.new.notes) at.invariant.put c.in_err-put_further_row.ensures.part in
    search (rules, part)

pub loop-row-preserved : goal.loop-row-preserved
loop-row-preserved g c =
    let at = c.loop-row in
    record {
      put = each_on further_row c.args.rows.now at.row-index 0 c.loop-row-test.true (g.E.Sink.held c.args.notes.now) (g.E.Sink.held at.notes) (g.E.Sink.held c.put_further_row.new.notes) at.invariant.put c.in_ok-put_further_row.ensures.whole;
      later = search rules;
    }
