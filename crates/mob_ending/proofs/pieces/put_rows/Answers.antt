use Rattle.std.{specs.Io.KnownBytes.{Appends}, specs.Prelude.{decimal}, specs.List.{concat}, proofs.Common.{rules, map}}
use Rattle.mob_ending.{specs.Lines.{further_row, row_number}, proofs.Joined.{part_after}}
use Rattle.mob_ending.proofs.pieces.put_rows.Goals as goal

pub returns-clause-part : goal.returns-clause-part
returns-clause-part g c =
    let first : Appends (g.E.Sink.held c.args.notes.now) (g.E.Sink.held c.put_all-2.new.sink) (decimal (row_number c.in-Some.row.now)) = search rules in
    let part = part_after c.put_further_rows.result (g.E.Sink.held c.args.notes.now) (g.E.Sink.held c.put_all-2.new.sink) (g.E.Sink.held c.put_further_rows.new.notes) (decimal (row_number c.in-Some.row.now)) (concat (map further_row c.in-Some.further.now)) first c.put_further_rows.ensures.part in
    search (rules, part)
