use Rattle.std.{proofs.Common.{Ok, Err, refl, sym, subst}, proofs.lemmas.Result.{IfErr-weaker, IfOk-weaker}}
use Rattle.mob_typed.specs.Trees.{typed_of}
use Rattle.mob_eval.specs.Views.{scene_of}
use Rattle.mob_tail.specs.GroupSteps.{IsAggregateOn, IsColumnWith}
use Rattle.mob_list.proofs.Faults.{cause_weaker}
use Rattle.mob_tail.proofs.group_memos.memo_with.Goals as goal

pub returns-in-Some : goal.returns-in-Some
returns-in-Some c =
    let s = scene_of c.args.view.now in
    let old = c.args.memo.now in
    let e = typed_of old.column.expression.now in
    let agg = c.in-Some.agg in
    let first = c.args.is_first in
    record {
      with = IfOk-weaker c.aggregate_on.result _ _ (λ u h. record { column = refl; state = subst (λ a. IsColumnWith s (e, a) old.state first (Ok c.aggregate_on.new.state)) (sym c.in-Some.is) h }) c.aggregate_on.ensures.value;
      fault = IfErr-weaker c.aggregate_on.result _ _ (λ x h. cause_weaker (λ f. IsAggregateOn s e agg old.state (Err f)) (λ f. IsColumnWith s (e, old.column.agg) old.state first (Err f)) (λ f k. subst (λ a. IsColumnWith s (e, a) old.state first (Err f)) (sym c.in-Some.is) k) x h) c.aggregate_on.ensures.fault;
    }
