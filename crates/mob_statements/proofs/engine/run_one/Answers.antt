use Rattle.mob_statements.proofs.Calls.{runs, stops}
use Rattle.mob_statements.proofs.engine.run_one.Goals as goal

pub returns-clause-step : goal.returns-clause-step
returns-clause-step g c = runs g.F.Fn c.args.execute.now _ _ _ _ c.execute.result c.execute.ensures

pub returns-clause-fault : goal.returns-clause-fault
returns-clause-fault g c = stops g.F.Fn c.args.execute.now _ _ _ _ c.execute.result c.execute.ensures
