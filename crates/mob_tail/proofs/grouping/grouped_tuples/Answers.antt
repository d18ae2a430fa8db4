use Rattle.std.{specs.Prelude.{is_none}, proofs.Common.{arith, ◌≡◌, ◌∙◌, ◌+◌, Some, ap, sym, subst, get_or, set, refl}, proofs.lemmas.List.{take_all}}
use Rattle.mob_meaning.specs.Scene.{scene}
use Rattle.mob_typed.specs.Selects.{select_seen}
use Rattle.mob_eval.proofs.QueryFaults.{on_tuple}
use Rattle.mob_tail.{specs.GroupedAnswers.{IsGroupedFault}, specs.GroupSteps.{AreGroupsOf, FailsInMemos, keys_on, number_on}, proofs.TupleSteps.{got_map}}
use Rattle.mob_tail.proofs.GroupLoop.{IsGroupedSoFar, number_within, next_grouped, fault_grouped}
use Rattle.mob_tail.proofs.grouping.grouped_tuples.Goals as goal

pub loop-place-init : goal.loop-place-init
loop-place-init c = record { are = c.requires.start; fits = refl }

pub loop-place-preserved : goal.loop-place-preserved
loop-place-preserved c =
    let at = c.loop-place in
    let select = select_seen c.args.select.now in
    let t = c.index-kept-place.result in
    let old = c.index_mut.result.now in
    let n : get_or c.args.numbers.now at.place 0 ≡ number_on select c.args.store.now c.args.terms.now c.args.kept.now t = ap (λ z. get_or z at.place 0) c.requires.numbered ∙ got_map (number_on select c.args.store.now c.args.terms.now c.args.kept.now) c.args.kept.now at.place t 0 c.loop-place-test.true c.index-kept-place.is in
    subst (λ m. IsGroupedSoFar select c.args.store.now c.args.terms.now c.args.kept.now (at.place + 1) (set at.groups.items m c.group_with.new.group)) (sym n)
    (next_grouped select c.args.store.now c.args.terms.now c.args.kept.now at.place t c.loop-place-test.true c.requires.few c.index-kept-place.is at.groups.items at.invariant old (c.index_mut.ensures.value ∙ ap (λ m. get_or at.groups.items m old) n) c.group_with.new.group c.group_with.ensures.first (rw (c.as_slice.ensures.same, c.as_slice-in-loop-place.ensures.same) at c.in-Ok.ensures.with))

pub index_mut-requires : goal.index_mut-requires
index_mut-requires c =
    let at = c.loop-place in
    let select = select_seen c.args.select.now in
    let t = c.index-kept-place.result in
    let n : get_or c.args.numbers.now at.place 0 ≡ number_on select c.args.store.now c.args.terms.now c.args.kept.now t = ap (λ z. get_or z at.place 0) c.requires.numbered ∙ got_map (number_on select c.args.store.now c.args.terms.now c.args.kept.now) c.args.kept.now at.place t 0 c.loop-place-test.true c.index-kept-place.is in
    let within = number_within select c.args.store.now c.args.terms.now c.args.kept.now at.place t c.loop-place-test.true c.index-kept-place.is at.groups.items at.invariant in
    omega (arith, n, within)

pub returns-in-Err-clause-fault : goal.returns-in-Err-clause-fault
returns-in-Err-clause-fault c =
    let at = c.loop-place in
    let select = select_seen c.args.select.now in
    let t = c.index-kept-place.result in
    let old = c.index_mut.result.now in
    let s = scene c.args.store.now select.from t c.args.terms.now in
    let n : get_or c.args.numbers.now at.place 0 ≡ number_on select c.args.store.now c.args.terms.now c.args.kept.now t = ap (λ z. get_or z at.place 0) c.requires.numbered ∙ got_map (number_on select c.args.store.now c.args.terms.now c.args.kept.now) c.args.kept.now at.place t 0 c.loop-place-test.true c.index-kept-place.is in
    let step = fault_grouped select c.args.store.now c.args.terms.now c.args.kept.now at.place t c.loop-place-test.true c.requires.few c.index-kept-place.is at.groups.items at.invariant old (c.index_mut.ensures.value ∙ ap (λ m. get_or at.groups.items m old) n) in
    on_tuple t (λ f. FailsInMemos s (is_none old.first) old.memos.items f) (λ f. IsGroupedFault select c.args.store.now c.args.terms.now c.args.kept.now (Some f)) (λ f is h. subst (λ z. IsGroupedFault select c.args.store.now c.args.terms.now c.args.kept.now (Some (z, f.1))) (sym is) (step f.1 h)) c.in-Err.fault c.fault_on.result
    (rw (c.as_slice.ensures.same, c.as_slice-in-loop-place.ensures.same) at c.in-Err.ensures.fault)
    c.fault_on.ensures.fault

pub returns : goal.returns
returns c =
    let at = c.loop-place in
    let select = select_seen c.args.select.now in
    let all = take_all at.place c.args.kept.now c.loop-place-test.false in
    record {
      groups = subst (λ z. AreGroupsOf select c.args.store.now c.args.terms.now (keys_on select c.args.store.now c.args.terms.now c.args.kept.now) z at.groups.items) all at.invariant.are;
      fits = subst (λ z. IsGroupedFault select c.args.store.now c.args.terms.now z _) all at.invariant.fits;
      fault = tt;
    }
