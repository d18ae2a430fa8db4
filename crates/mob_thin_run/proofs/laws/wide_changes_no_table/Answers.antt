use Rattle.mob_thin_run.proofs.WideTables.{one_text, stops_nowhere, writes_the_same}
use Rattle.mob_thin_run.proofs.laws.wide_changes_no_table.Goals as goal

pub returns : goal.returns
returns c = record { stops = stops_nowhere; writes = writes_the_same; one = one_text }
