use Rattle.std.{specs.Io.KnownBytes.{Appends}, proofs.Common.{rules, refl, subst, ◌+◌, length}, proofs.lemmas.Option.{slice_get_read}}
use Rattle.mob_outside.{specs.Streams.{PutsPart}, specs.EndsSeen.{stream_seen}}
use Rattle.mob_statements.{specs.Calls.{CallRuns, CallStops}, proofs.Running.{halted, ran_next, puts_front}}
use Rattle.mob_statements.proofs.engine.run_each.Goals as goal

pub returns-in-Err-clause-ends : goal.returns-in-Err-clause-ends
returns-in-Err-clause-ends g c =
    let at = c.loop-statement in
    let execute = c.args.execute.now in
    halted (CallRuns g.F.Fn execute) (CallStops g.F.Fn execute) c.args.state.now c.run_one.new.state c.args.statements.now (stream_seen g.K.Sink.held g.K.Sink.faults c.args.out.now at.out) at.number at.statement-index at.state c.statement-item.result
    c.in-Err.fault c.ended_by.result at.invariant.number c.loop-statement-test.true c.statement-item.is at.invariant.ran c.in-Err.ensures.fault c.ended_by.ensures.end

pub returns-in-Err-put_all-clause-ends : goal.returns-in-Err-put_all-clause-ends
returns-in-Err-put_all-clause-ends g c =
    let at = c.loop-statement in
    let part = subst (λ w. PutsPart w (g.K.Sink.held at.out) (g.K.Sink.held c.put_all.new.sink)) c.deref.ensures.value c.in-Err-put_all.ensures.part in (
      puts_front (CallRuns g.F.Fn c.args.execute.now) c.args.state.now c.args.statements.now (g.K.Sink.held c.args.out.now) at.statement-index c.statement-item.result at.state c.run_one.new.state c.in-Ok.text.items
          (g.K.Sink.held at.out) (g.K.Sink.held c.put_all.new.sink) c.loop-statement-test.true c.statement-item.is at.invariant.ran c.in-Ok.ensures.step part,
      search rules,
    )

pub returns-in_default-clause-ends : goal.returns-in_default-clause-ends
returns-in_default-clause-ends g c =
    let at = c.loop-statement in
    let put = subst (λ w. Appends (g.K.Sink.held at.out) (g.K.Sink.held c.put_all.new.sink) w) c.deref.ensures.value c.in-Ok-put_all.ensures.whole in (
      at.statement-index + 1,
      c.run_one.new.state,
      ran_next (CallRuns g.F.Fn c.args.execute.now) c.args.state.now c.args.statements.now (g.K.Sink.held c.args.out.now) at.statement-index c.statement-item.result at.state c.run_one.new.state c.in-Ok.text.items
          (g.K.Sink.held at.out) (g.K.Sink.held c.put_all.new.sink) c.loop-statement-test.true c.statement-item.is at.invariant.ran c.in-Ok.ensures.step put,
    )

pub loop-statement-preserved : goal.loop-statement-preserved
loop-statement-preserved g c =
    let at = c.loop-statement in
    let execute = c.args.execute.now in
    let put = subst (λ w. Appends (g.K.Sink.held at.out) (g.K.Sink.held c.put_all.new.sink) w) c.deref.ensures.value c.in-Ok-put_all.ensures.whole in
    record {
      number = search rules;
      within = search rules;
      ran = ran_next (CallRuns g.F.Fn execute) c.args.state.now c.args.statements.now (g.K.Sink.held c.args.out.now) at.statement-index c.statement-item.result at.state c.run_one.new.state c.in-Ok.text.items
          (g.K.Sink.held at.out) (g.K.Sink.held c.put_all.new.sink) c.loop-statement-test.true c.statement-item.is at.invariant.ran c.in-Ok.ensures.step put;
      later = search rules;
    }

pub run_one-requires : goal.run_one-requires
run_one-requires g c =
    let at = c.loop-statement in
    let xs = c.args.statements.now in
    let can = c.requires.can at.statement-index at.state at.invariant.ran.text c.statement-item.result at.invariant.ran.ran (slice_get_read xs (length xs) at.statement-index c.statement-item.result refl c.loop-statement-test.true c.statement-item.is) in
    search (rules, can)
