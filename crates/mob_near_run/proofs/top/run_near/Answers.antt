use Rattle.mob_trips.proofs.Statuses.{is_trips_run, is_exact_run}
use Rattle.mob_near_run.{specs.NearProgram.{near_program, near_usage}, proofs.NearLaws.{is_exact, is_program}}
use Rattle.mob_near_run.proofs.top.run_near.Goals as goal

pub returns : goal.returns
returns g c = record {
  promises = rw c.status.ensures.number (is_trips_run near_program is_program c.one_table.ensures.rows c.one_table.ensures.apart near_usage c.decide-ending.result _ _ c.decide-ending.ensures.ends c.tell_near.ensures.puts);
  exact = λ wide. rw c.status.ensures.number (is_exact_run near_program is_program c.one_table.ensures.rows c.one_table.ensures.apart c.decide-ending.result _ (λ settings says. is_exact settings (wide settings says)) c.decide-ending.ensures.ends);
}
