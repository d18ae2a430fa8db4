use Rattle.std.proofs.Common.{sym, subst}
use Rattle.mob_statements.proofs.Calls.{can_by_calls, end_by_calls, second}
use Rattle.mob_shell.specs.Session.{SessionCanRun, SessionRuns, StopsOn}
use Rattle.mob_shell.proofs.statements.engine.run_session.Goals as goal

pub run_all-requires : goal.run_all-requires
run_all-requires g c = record {
  can = λ j t text x ran there a p q is reads.
      let can : SessionCanRun t x = can_by_calls _ _ SessionRuns SessionCanRun StopsOn (λ b r s left given h. second h) c.args.statements.now c.args.session.now c.requires.can j t text x ran there in
      let now : SessionCanRun p.now q.now = subst (λ z. SessionCanRun z q.now) (sym is) (subst (λ z. SessionCanRun t z) (sym reads) can) in
      (now, (c.requires.some, (c.requires.few, (record { shared = c.type_bounds.sync-R.shared }, record { shared = c.type_bounds.sync-G.shared }))));
}

pub returns-clause-ends : goal.returns-clause-ends
returns-clause-ends g c = end_by_calls _ _ SessionRuns SessionCanRun StopsOn (λ a p q left given h. second h) _ _ _ _ _ c.run_all.ensures.ends
