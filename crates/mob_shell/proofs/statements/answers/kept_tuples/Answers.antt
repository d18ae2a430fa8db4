use Rattle.std.proofs.Common.{Ok, Err, IfOk, IfErr, subst}
use Rattle.mob_typed.specs.Selects.{select_seen}
use Rattle.mob_join.specs.Query.{IsKept}
use Rattle.mob_list.specs.Faults.{OnCause}
use Rattle.mob_shell.proofs.statements.answers.kept_tuples.Goals as goal

pub returns-clause-kept : goal.returns-clause-kept
returns-clause-kept g c = subst (λ q. IfOk c.kept.result (λ kept. IsKept (select_seen q.select.now) q.catalog.now q.terms.now (Ok kept))) c.new-query.ensures.parts c.kept.ensures.kept

pub returns-clause-fault : goal.returns-clause-fault
returns-clause-fault g c = subst (λ q. IfErr c.kept.result (OnCause (λ f. IsKept (select_seen q.select.now) q.catalog.now q.terms.now (Err f)))) c.new-query.ensures.parts c.kept.ensures.fault
