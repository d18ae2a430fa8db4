use Rattle.std.{specs.Prelude.{option_map, slice_get}, proofs.Common.{rules, ◌≡◌, ◌∙◌, ◌-◌, ap, map}}
use Rattle.mob_load.{specs.Loads.{columns_or_none, loaded_columns, greatest_rows, loaded_row_count, loaded_of}, proofs.Narrow.{columns_narrow}, proofs.Steps.{file_refused}}
use Rattle.mob_load.proofs.checking.load_bytes.Goals as goal

pub returns-in_ok-copy-in-Err-Because-clause-loads : goal.returns-in_ok-copy-in-Err-Because-clause-loads
returns-in_ok-copy-in-Err-Because-clause-loads c =
    let wrong = rw c.in-Err-Because.field-0-is at c.in-Err-Because.ensures.first_fault in
    let columns : columns_or_none (option_map (λ c. c.now) c.columns_of_table-columns.result) ≡ loaded_columns (loaded_of c.args.loading.now) c.args.table =
    ap columns_or_none (c.columns_of_table-columns.ensures.columns ∙ ap (λ xs. slice_get (map (λ x. x.now) xs) c.args.table) c.deref-2.ensures.value) in
    let room : c.saturating_sub-room.result ≡ greatest_rows - loaded_row_count (loaded_of c.args.loading.now) c.args.table = search rules in
    file_refused c.args.epoch.now c.args.table c.args.name.now c.in_ok-copy-in-Err-Because.field-0 c.args.bytes.now (loaded_of c.args.loading.now) _ c.saturating_sub-room.result
    c.in-Err-Because.wrong.rec c.in-Err-Because.wrong.field c.in-Err-Because.wrong.kind wrong columns room c.in_ok-copy-in-Err-Because.ensures.same

pub rows_of_bytes-requires : goal.rows_of_bytes-requires
rows_of_bytes-requires c = record { narrow = rw c.columns_of_table-columns.ensures.columns (rw c.deref-2.ensures.value (columns_narrow (loaded_of c.args.loading.now).tables c.args.table c.requires.narrow)) }
