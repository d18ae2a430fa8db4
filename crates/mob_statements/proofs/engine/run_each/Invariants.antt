use Rattle.std.proofs.Common.{◌≡◌, ◌+◌, ◌≤◌, length}
use Rattle.mob_statements.{specs.Calls.{CallRuns}, specs.Statements.{RanFirst}}
use Rattle.mob_statements.proofs.engine.run_each.Given as goal

abbrev pub invariant-loop-statement : goal.invariant-loop-statement
invariant-loop-statement g l = record {
  number : l.number ≡ l.statement-index + 1;
  within : l.statement-index ≤ length l.statements;
  ran : RanFirst (CallRuns g.F.Fn l.execute) l.initial.state l.statements l.statement-index l.state (g.K.Sink.held l.fn.out) (g.K.Sink.held l.out);
  later : g.K.Sink.faults l.fn.out ≤ g.K.Sink.faults l.out;
}
