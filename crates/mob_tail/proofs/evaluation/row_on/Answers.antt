use Rattle.std.{proofs.Common.{inl, inr, Err, map}, proofs.lemmas.Result.{IfErr-weaker, IfOk-weaker, err_from_is_err_and}}
use Rattle.mob_meaning.specs.Evaluation.{TreeEvaluatesTo}
use Rattle.mob_eval.{specs.Views.{scene_of}, specs.Remembered.{root_seen}}
use Rattle.mob_arrange.specs.RowValues.{row_value}
use Rattle.mob_tail.{specs.IsMadeOfEach.{IsMadeOfEach}, specs.Evaluated.{AreEvaluated}}
use Rattle.mob_list.{specs.Faults.{OnCause}, proofs.Faults.{cause_weaker}}
use Rattle.mob_tail.proofs.evaluation.row_on.Goals as goal

pub returns-clause-row : goal.returns-clause-row
returns-clause-row g c =
    IfOk-weaker c.row_before.result _ _ (λ row h. (map row_value c.in_ok-fields.fields, h.0, c.in_ok-fields.ensures.values, h.1, h.2)) c.row_before.ensures.row

pub returns-clause-fault : goal.returns-clause-fault
returns-clause-fault g c =
    let s = scene_of c.args.view.now in
    let items = map root_seen c.args.items.now in
    let keys = map root_seen c.args.keys.now in
    IfErr-weaker c.row_before.result (OnCause (λ f. IsMadeOfEach (TreeEvaluatesTo s) keys (Err f))) (OnCause (λ f. AreEvaluated s items keys (Err f)))
    (λ e h. cause_weaker (λ f. IsMadeOfEach (TreeEvaluatesTo s) keys (Err f)) (λ f. AreEvaluated s items keys (Err f)) (λ f k. inr (map row_value c.in_ok-fields.fields, c.in_ok-fields.ensures.values, k)) e h) c.row_before.ensures.fault

pub returns-in_err-fields-clause-fault : goal.returns-in_err-fields-clause-fault
returns-in_err-fields-clause-fault g c =
    let s = scene_of c.args.view.now in
    let items = map root_seen c.args.items.now in
    let p = err_from_is_err_and c.from_residual.result c.from_residual.ensures.1 in
    rw (p.1, p.2) (cause_weaker (λ f. IsMadeOfEach (TreeEvaluatesTo s) items (Err f)) (λ f. AreEvaluated s items (map root_seen c.args.keys.now) (Err f)) (λ f h. inl h) c.in_err-fields.field-0.0 c.in_err-fields.ensures.fault)
