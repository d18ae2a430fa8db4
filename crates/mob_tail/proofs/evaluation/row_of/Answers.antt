use Rattle.std.{specs.List.{AllByRecursion}, proofs.Common.{ℕ, List, Ok, Err, IfOk, IfErr, sym, subst}, proofs.lemmas.Result.{IfErr-weaker, IfOk-weaker}}
use Rattle.mob_list.{specs.Faults.{OnCause}, proofs.Each.{each_parts}, proofs.Faults.{cause_weaker}}
use Rattle.mob_typed.specs.Selects.{select_seen}
use Rattle.mob_meaning.specs.Scene.{scene}
use Rattle.mob_eval.specs.Remembered.{Fits}
use Rattle.mob_tail.{specs.Answers.{IsRowOf}, specs.AnswerRows.{answer_row}, specs.Recalling.{SelectFits, item_trees, order_trees}, proofs.AnswerRows.{row_seen, row_fails}}
use Rattle.mob_tail.proofs.evaluation.row_of.Goals as goal

pub row_on-requires : goal.row_on-requires
row_on-requires g c =
    let select = select_seen c.args.select.now in
    let remembered = g.K.Remembering.recollection in
    let there = λ (from : List ℕ). scene c.args.store.now from c.args.tuple.now c.args.terms.now in
    let P = Fits remembered (there c.as_slice.result.now) in
    let fits = subst (λ from. SelectFits remembered select (there from)) (sym c.as_slice.ensures.same) c.requires.fits in record {
      fit = subst (AllByRecursion P) (sym c.requires.items) (each_parts P (item_trees select) (order_trees select) fits).0;
      fit_too = subst (AllByRecursion P) (sym c.requires.keys) (each_parts P (item_trees select) (order_trees select) fits).1;
    }

pub returns-clause-row : goal.returns-clause-row
returns-clause-row g c =
    let select = select_seen c.args.select.now in
    let there = λ (from : List ℕ). scene c.args.store.now from c.args.tuple.now c.args.terms.now in
    subst (λ from. IfOk c.row_on.result (λ row. IsRowOf select (there from) (Ok (answer_row select c.args.terms.now.epoch row)))) c.as_slice.ensures.same
    (IfOk-weaker c.row_on.result _ _ (λ row h. row_seen (there c.as_slice.result.now) select _ _ c.requires.items c.requires.keys row h) c.row_on.ensures.row)

pub returns-clause-fault : goal.returns-clause-fault
returns-clause-fault g c =
    let select = select_seen c.args.select.now in
    let there = λ (from : List ℕ). scene c.args.store.now from c.args.tuple.now c.args.terms.now in
    subst (λ from. IfErr c.row_on.result (OnCause (λ f. IsRowOf select (there from) (Err f)))) c.as_slice.ensures.same
    (IfErr-weaker c.row_on.result _ _ (λ e h. cause_weaker _ _ (λ f k. row_fails (there c.as_slice.result.now) select _ _ c.requires.items c.requires.keys f k) e h) c.row_on.ensures.fault)
