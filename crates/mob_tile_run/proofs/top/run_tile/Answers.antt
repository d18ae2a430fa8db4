use Rattle.mob_trips.proofs.Statuses.{is_trips_run, is_exact_run}
use Rattle.mob_tile_run.{specs.TileProgram.{tile_program, tile_usage}, proofs.OneFault.{is_exact}, proofs.TileLaws.{is_program}}
use Rattle.mob_tile_run.proofs.top.run_tile.Goals as goal

pub returns : goal.returns
returns g c = record {
  promises = rw c.status.ensures.number (is_trips_run tile_program is_program c.one_table.ensures.rows c.one_table.ensures.apart tile_usage c.decide-ending.result _ _ c.decide-ending.ensures.ends c.tell_tile.ensures.puts);
  exact = rw c.status.ensures.number (is_exact_run tile_program is_program c.one_table.ensures.rows c.one_table.ensures.apart c.decide-ending.result _ (λ settings says. is_exact settings) c.decide-ending.ensures.ends);
}
