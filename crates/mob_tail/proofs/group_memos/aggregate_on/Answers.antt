use Rattle.std.{proofs.Common.{inl, inr, ◌≡◌, Err}, proofs.lemmas.Result.{IfErr-weaker, IfOk-weaker, err_from_is_err_and}}
use Rattle.mob_list.{specs.declared.fault.Fault.TheVariants.{Because}, proofs.Faults.{cause_weaker}}
use Rattle.mob_typed.specs.Trees.{typed_of}
use Rattle.mob_eval.specs.Views.{scene_of}
use Rattle.mob_value.specs.Held.{held}
use Rattle.mob_tail.{specs.Aggregated.{leaves_out}, specs.GroupSteps.{IsAggregateOn}, specs.States.{IsStateWith}}
use Rattle.mob_tail.proofs.group_memos.aggregate_on.Goals as goal

pub returns-clause-value : goal.returns-clause-value
returns-clause-value c = IfOk-weaker c.argument_in.result _ _ (λ u h. (held c.in_ok-argument.argument, c.in_ok-argument.ensures.value, h)) c.argument_in.ensures.value

pub returns-clause-fault : goal.returns-clause-fault
returns-clause-fault c =
    let s = scene_of c.args.view.now in
    let e = typed_of c.args.e.now in
    let agg = c.args.agg in
    let w = held c.in_ok-argument.argument in
    IfErr-weaker c.argument_in.result _ _ (λ x h. cause_weaker (λ f. (f.0 ≡ agg.place) × IsStateWith (leaves_out agg.kind w) agg.kind agg.ty c.args.state.now w (Err (Because f.1))) (λ f. IsAggregateOn s e agg c.args.state.now (Err f)) (λ f k. inr (w, c.in_ok-argument.ensures.value, k.0, k.1)) x h) c.argument_in.ensures.fault

pub returns-in_err-argument-clause-fault : goal.returns-in_err-argument-clause-fault
returns-in_err-argument-clause-fault c =
    let s = scene_of c.args.view.now in
    let e = typed_of c.args.e.now in
    let p = err_from_is_err_and c.from_residual.result c.from_residual.ensures.1 in
    rw (p.1, p.2) (cause_weaker _ (λ f. IsAggregateOn s e c.args.agg c.args.state.now (Err f)) (λ f h. inl h) c.in_err-argument.field-0.0 c.in_err-argument.ensures.fault)
