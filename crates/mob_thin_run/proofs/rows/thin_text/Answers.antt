use Rattle.mob_thin_run.proofs.Zips.{is_thin_text}
use Rattle.mob_thin_run.proofs.rows.thin_text.Goals as goal

pub returns-clause-text : goal.returns-clause-text
returns-clause-text c = is_thin_text c.args.d.now c.args.epoch.now c.args.rows.now c.in_ok-records.records c.in_ok-names.names.items c.in_ok-records_text.field-0.items c.in_ok-records.ensures.records c.in_ok-names.ensures.names (rw (c.as_slice.ensures.same, c.deref.ensures.value) at c.in_ok-records_text.ensures.text)
