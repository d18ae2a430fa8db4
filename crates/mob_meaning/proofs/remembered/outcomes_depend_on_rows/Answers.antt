use Rattle.mob_meaning.proofs.Depending.{depend, rows_decide}
use Rattle.mob_meaning.proofs.remembered.outcomes_depend_on_rows.Goals as goal

pub returns : goal.returns
returns c = record { same = depend; one_row = rows_decide }
