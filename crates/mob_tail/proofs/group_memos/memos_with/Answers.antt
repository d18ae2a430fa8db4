use Rattle.std.{proofs.Common.{◌≡◌, ◌+◌, ◌<◌, ◌≤◌, suc, arith, length, set, subst}, proofs.lemmas.Result.{err_from_is_err_and}}
use Rattle.mob_eval.specs.Views.{scene_of}
use Rattle.mob_tail.{specs.GroupSteps.{IsMemoWith}, proofs.TupleSteps.{fails_at}}
use Rattle.mob_list.{proofs.Changing.{AreChanged, all_changed, changed_length, next_changed, none_changed}, proofs.Faults.{cause_weaker}}
use Rattle.mob_tail.proofs.group_memos.memos_with.Goals as goal

pub loop-number-init : goal.loop-number-init
loop-number-init c = none_changed (IsMemoWith (scene_of c.args.view.now) c.args.is_first) c.args.memos.now.items

pub loop-number-preserved : goal.loop-number-preserved
loop-number-preserved c =
    let R = IsMemoWith (scene_of c.args.view.now) c.args.is_first in
    let old = c.args.memos.now.items in
    let now = c.loop-number.memos.items in
    let lt : c.loop-number.number < length now = omega (arith, changed_length R c.loop-number.number old now c.loop-number.invariant, c.loop-number-test.true, c.len-number-end.ensures) in
    let more : suc c.loop-number.number ≡ c.loop-number.number + 1 = omega arith in
    subst (λ m. AreChanged R m old (set now c.loop-number.number c.memo_with.new.memo)) more (next_changed R c.loop-number.number old now c.index_mut.result.now c.memo_with.new.memo lt c.index_mut.ensures.value c.in_ok-memo_with.ensures.with c.loop-number.invariant)

pub returns-in_err-memo_with-clause-fault : goal.returns-in_err-memo_with-clause-fault
returns-in_err-memo_with-clause-fault c =
    let R = IsMemoWith (scene_of c.args.view.now) c.args.is_first in
    let old = c.args.memos.now.items in
    let now = c.loop-number.memos.items in
    let lt : c.loop-number.number < length now = omega (arith, changed_length R c.loop-number.number old now c.loop-number.invariant, c.loop-number-test.true, c.len-number-end.ensures) in
    let p = err_from_is_err_and c.from_residual.result c.from_residual.ensures.1 in
    rw (p.1, p.2) (cause_weaker _ _ (λ f h. fails_at (scene_of c.args.view.now) c.args.is_first c.loop-number.number old now c.index_mut.result.now f lt c.index_mut.ensures.value c.loop-number.invariant h) c.in_err-memo_with.field-0.0 c.in_err-memo_with.ensures.fault)

pub returns : goal.returns
returns c =
    let R = IsMemoWith (scene_of c.args.view.now) c.args.is_first in
    let old = c.args.memos.now.items in
    let now = c.loop-number.memos.items in
    let le : length now ≤ c.loop-number.number = omega (arith, changed_length R c.loop-number.number old now c.loop-number.invariant, c.loop-number-test.false, c.len-number-end.ensures) in
    record { with = all_changed R c.loop-number.number old now le c.loop-number.invariant; fault = tt }
