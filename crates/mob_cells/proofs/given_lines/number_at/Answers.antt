use Rattle.mob_slice.proofs.Narrowing.{line_narrows}
use Rattle.mob_cells.proofs.given_lines.number_at.Goals as goal

pub returns-in-Ok : goal.returns-in-Ok
returns-in-Ok c = record { made = (c.in-Ok.ensures.value.0, line_narrows c.args.x0.now c.args.x1.now c.args.l.now c.args.u.now c.args.t.now c.in-Ok.ensures.value.1) }
