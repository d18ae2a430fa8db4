use Rattle.std.{specs.Prelude.{unwrap_or}, specs.List.{concat}, proofs.Common.{◌≡◌, ◌∷◌, ◌∙◌, [], List, ℕ, Option, refl, map, take, ap, arith}, proofs.lemmas.List.{take_all}}
use Rattle.mob_records.{specs.AnswerText.{record_line}, proofs.RecordText.{records_more_by}}
use Rattle.mob_records.proofs.text.records_by.Goals as goal

pub loop-row-preserved : goal.loop-row-preserved
loop-row-preserved g c =
    let print = g.P.FieldPrinter.fields c.args.printer.now in
    record {
      text = records_more_by print c.args.names.now c.args.rows.now c.loop-row.row-index c.row-item.result (print c.row-item.result) _ _ c.loop-row-test.true c.row-item.is refl c.loop-row.invariant.text c.in_ok-print_record.ensures.text;
      between = c.in_ok-print_record.ensures.between;
    }

pub returns-in-Ok : goal.returns-in-Ok
returns-in-Ok g c =
    let print = g.P.FieldPrinter.fields c.args.printer.now in
    let all : take c.loop-row.row-index c.args.rows.now ≡ c.args.rows.now = take_all c.loop-row.row-index c.args.rows.now (omega arith) in
    let written : c.in-Ok.text.items ≡ concat (map record_line (c.args.names.now ∷ map print (take c.loop-row.row-index c.args.rows.now))) = c.in-Ok.ensures.ok ∙ ap (λ (o : Option (List ℕ)). unwrap_or o []) c.loop-row.invariant.text in
    record { text = written ∙ ap (λ rows. concat (map record_line (c.args.names.now ∷ map print rows))) all }
