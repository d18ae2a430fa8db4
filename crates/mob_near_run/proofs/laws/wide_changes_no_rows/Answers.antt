use Rattle.mob_near_run.proofs.WideRows.{one_text, writes_the_same}
use Rattle.mob_near_run.proofs.laws.wide_changes_no_rows.Goals as goal

pub returns : goal.returns
returns c = record { writes = writes_the_same; one = one_text }
