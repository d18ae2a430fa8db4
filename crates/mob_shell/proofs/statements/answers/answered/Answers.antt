use Rattle.std.{proofs.Common.{ℕ, List, inl, inr, Ok, Err, subst}, proofs.lemmas.Result.{IfErr-weaker, MatchResult-weaker, err_from_is_err_and}}
use Rattle.mob_typed.specs.Selects.{select_seen}
use Rattle.mob_eval.specs.QueryFaults.{TupleFault}
use Rattle.mob_join.specs.Query.{IsKept}
use Rattle.mob_tail.specs.Answers.{IsAnswerOnKept}
use Rattle.mob_shell.specs.Answers.{QueryAnswers}
use Rattle.mob_list.{specs.Faults.{OnCause}, proofs.Faults.{cause_weaker}}
use Rattle.mob_shell.proofs.statements.answers.answered.Goals as goal

pub returns-in_err-kept-clause-fault : goal.returns-in_err-kept-clause-fault
returns-in_err-kept-clause-fault g c =
    let p = err_from_is_err_and c.from_residual.result c.from_residual.ensures.1 in
    let select = select_seen c.args.select.now in
    let catalogue = c.args.catalog.now in
    let terms = c.args.terms.now in
    rw (p.1, p.2) (cause_weaker (λ f. IsKept select catalogue terms (Err f)) (λ f. QueryAnswers select catalogue terms (Err f)) (λ f h. inl h) c.in_err-kept.field-0.0 c.in_err-kept.ensures.fault)

pub returns-clause-text : goal.returns-clause-text
returns-clause-text g c =
    let select = select_seen c.args.select.now in
    let terms = c.args.terms.now in
    let there = λ (rows : List (List (List ℕ))) (k : IsAnswerOnKept select c.store.result.now terms c.as_slice.result.now (Ok rows)).
    subst (λ z. IsAnswerOnKept select z terms c.in_ok-kept.kept (Ok rows)) c.store.ensures.same (subst (λ z. IsAnswerOnKept select c.store.result.now terms z (Ok rows)) c.as_slice.ensures.same k) in
    MatchResult-weaker c.answered_text.result c.answered_text.ensures.text (λ text h. (h.0, (c.in_ok-kept.kept, c.in_ok-kept.ensures.kept, there h.0 h.1), h.2)) (λ e h. h)

pub returns-clause-fault : goal.returns-clause-fault
returns-clause-fault g c =
    let select = select_seen c.args.select.now in
    let catalogue = c.args.catalog.now in
    let terms = c.args.terms.now in
    let there = λ (f : TupleFault) (k : IsAnswerOnKept select c.store.result.now terms c.as_slice.result.now (Err f)).
    subst (λ z. IsAnswerOnKept select z terms c.in_ok-kept.kept (Err f)) c.store.ensures.same (subst (λ z. IsAnswerOnKept select c.store.result.now terms z (Err f)) c.as_slice.ensures.same k) in
    IfErr-weaker c.answered_text.result (OnCause (λ f. IsAnswerOnKept select c.store.result.now terms c.as_slice.result.now (Err f))) (OnCause (λ f. QueryAnswers select catalogue terms (Err f)))
    (cause_weaker (λ f. IsAnswerOnKept select c.store.result.now terms c.as_slice.result.now (Err f)) (λ f. QueryAnswers select catalogue terms (Err f)) (λ f k. inr (c.in_ok-kept.kept, c.in_ok-kept.ensures.kept, there f k))) c.answered_text.ensures.fault
