use Rattle.std.proofs.Common.{◌≡◌, ◌∙◌, ◌<◌, ap, length, arith}
use Rattle.mob_catalog.{specs.Catalogue.{rows_put, with_changed}, specs.Kept.{with_last_rows}, proofs.FirstRows.{rows_set}}
use Rattle.mob_catalog.proofs.first_rows.set_rows.Goals as goal

pub returns : goal.returns
returns c =
    let all = c.into_vec-all.result.items in
    let table = c.args.table in
    let same : all ≡ c.args.tables.now = c.into_vec-all.ensures.same ∙ c.replace.ensures.value in
    let there : table < length all = omega (arith, c.requires.there, ap length same) in
    record {
      put = c.from_vec.ensures.same ∙ rows_set all table c.args.rows c.index_mut.result.now there (ap (rows_put table) same ∙ c.requires.none)
          ∙ ap (with_changed table (with_last_rows c.args.rows)) same;
    }
