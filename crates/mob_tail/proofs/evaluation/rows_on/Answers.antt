use Rattle.std.{proofs.Common.{rules, ◌≡◌, ◌++◌, ◌∷◌, [], Ok, Err, ℕ, List, map, ap, ◌∙◌, arith, subst}, proofs.lemmas.List.{map-append}}
use Rattle.mob_typed.specs.Selects.{select_seen}
use Rattle.mob_meaning.specs.Scene.{scene}
use Rattle.mob_eval.proofs.QueryFaults.{on_tuple}
use Rattle.mob_tail.{specs.IsMadeOfEach.{IsMadeOfEach}, specs.Answers.{IsTupleRow, IsRowOf}, specs.AnswerRows.{answer_row}, proofs.Making.{each_next, each_fault, each_all}}
use Rattle.mob_list.specs.Faults.{OnCause}
use Rattle.mob_tail.proofs.evaluation.rows_on.Goals as goal

pub loop-tuple-preserved : goal.loop-tuple-preserved
loop-tuple-preserved g c =
    let at = c.loop-tuple in
    let select = select_seen c.args.select.now in
    let R = IsTupleRow select c.args.store.now c.args.terms.now in
    let there = λ (t : List ℕ). scene c.args.store.now select.from t c.args.terms.now in
    let see = answer_row select c.args.terms.now.epoch in
    let pushed : c.push.new.self.items ≡ at.rows.items ++ c.in-Ok-row_of.row ∷ [] = search rules in
    let seen : map see c.push.new.self.items ≡ map see at.rows.items ++ see c.in-Ok-row_of.row ∷ [] = ap (map see) pushed ∙ map-append see at.rows.items (c.in-Ok-row_of.row ∷ []) in
    each_next R c.args.kept.now at.tuple-index c.tuple-item.result c.loop-tuple-test.true c.tuple-item.is (map see at.rows.items) at.invariant (see c.in-Ok-row_of.row) (map see c.push.new.self.items)
    (subst (λ t. IsRowOf select (there t) (Ok (see c.in-Ok-row_of.row))) c.as_slice.ensures.same c.in-Ok-row_of.ensures.row) seen

pub returns-in-Err-clause-fault : goal.returns-in-Err-clause-fault
returns-in-Err-clause-fault g c =
    let at = c.loop-tuple in
    let select = select_seen c.args.select.now in
    let R = IsTupleRow select c.args.store.now c.args.terms.now in
    let there = λ (t : List ℕ). scene c.args.store.now select.from t c.args.terms.now in
    let step = each_fault R c.args.kept.now at.tuple-index c.tuple-item.result c.loop-tuple-test.true c.tuple-item.is (map (answer_row select c.args.terms.now.epoch) at.rows.items) at.invariant in
    on_tuple c.tuple-item.result (λ f. IsRowOf select (there c.tuple-item.result) (Err f)) (λ f. IsMadeOfEach R c.args.kept.now (Err f)) (λ f is h. step f (is, h)) c.in-Err.fault c.fault_on.result
    (subst (λ t. OnCause (λ f. IsRowOf select (there t) (Err f)) c.in-Err.fault) c.as_slice.ensures.same c.in-Err.ensures.fault)
    c.fault_on.ensures.fault

pub returns-clause-rows : goal.returns-clause-rows
returns-clause-rows g c =
    each_all (IsTupleRow (select_seen c.args.select.now) c.args.store.now c.args.terms.now) c.args.kept.now c.loop-tuple.tuple-index (map (answer_row (select_seen c.args.select.now) c.args.terms.now.epoch) c.loop-tuple.rows.items) (omega arith) c.loop-tuple.invariant

pub row_of-requires : goal.row_of-requires
row_of-requires g c = record { items = c.requires.items; keys = c.requires.keys; fits = c.requires.fits c.as_slice.result.now }
