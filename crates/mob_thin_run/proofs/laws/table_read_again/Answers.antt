use Rattle.mob_thin_run.proofs.TablesAgain.{tables_again}
use Rattle.mob_thin_run.proofs.laws.table_read_again.Goals as goal

pub returns : goal.returns
returns c = record { again = tables_again }
