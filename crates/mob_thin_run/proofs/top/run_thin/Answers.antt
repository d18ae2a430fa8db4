use Rattle.mob_trips.proofs.Statuses.{is_trips_run, is_exact_run}
use Rattle.mob_thin_run.{specs.ThinProgram.{thin_program, thin_usage}, proofs.Apart.{is_program, is_exact}}
use Rattle.mob_thin_run.proofs.top.run_thin.Goals as goal

pub returns : goal.returns
returns g c = record {
  promises = rw c.status.ensures.number (is_trips_run thin_program is_program c.one_table.ensures.rows c.one_table.ensures.apart thin_usage c.decide-ending.result _ _ c.decide-ending.ensures.ends c.tell_thin.ensures.puts);
  exact = rw c.status.ensures.number (is_exact_run thin_program is_program c.one_table.ensures.rows c.one_table.ensures.apart c.decide-ending.result _ (λ settings says. is_exact settings) c.decide-ending.ensures.ends);
}
