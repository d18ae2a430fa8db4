use Rattle.std.proofs.Common.{rules, ◌≡◌, ◌∙◌, ap}
use Rattle.mob_catalog.specs.Catalogue.{Catalogue, with_row}
use Rattle.mob_shell.{specs.Runs.{inserted_row}, proofs.Putting.{more_rows}}
use Rattle.mob_shell.proofs.statements.rows.put_constants.Goals as goal

pub loop-row-preserved : goal.loop-row-preserved
loop-row-preserved c =
    let at = c.loop-row in
    let consts = at.invariant.consts in
    let put : c.add_row.new.self ≡ with_row c.args.table (inserted_row c.args.catalog.now.store.consts c.row-item.result) at.catalog = search (rules, consts) in
    record {
      consts = ap (λ (k : Catalogue). k.store.consts) put ∙ consts;
      rest = more_rows (inserted_row c.args.catalog.now.store.consts) c.args.table c.args.rows.now at.row-index c.row-item.result c.loop-row-test.true c.row-item.is at.catalog c.add_row.new.self put ∙ at.invariant.rest;
    }
