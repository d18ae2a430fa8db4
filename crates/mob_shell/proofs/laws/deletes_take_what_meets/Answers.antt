use Rattle.mob_shell.proofs.DeletedRows.{rows_that_meet_go}
use Rattle.mob_shell.proofs.laws.deletes_take_what_meets.Goals as goal

pub returns : goal.returns
returns c = record { rows = rows_that_meet_go c.kept_rows_can_go.ensures.those c.rows_come_and_go.ensures.rows c.queries_are_typed.ensures.typed }
