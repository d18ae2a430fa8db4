use Rattle.std.{proofs.Common.{◌∙◌, sym, subst}, proofs.lemmas.Result.{IfErr-weaker, IfOk-weaker}}
use Rattle.mob_knn.specs.Nearest.{AreNearest}
use Rattle.mob_near_run.{specs.NearAnswers.{target_operand}, proofs.Printing.{unprintable}}
use Rattle.mob_near_run.proofs.answer.found_wide.Goals as goal

pub returns-clause-nearest : goal.returns-clause-nearest
returns-clause-nearest c =
    let are = rw c.asked.ensures.same at c.in_ok-rows.ensures.nearest in
    IfOk-weaker c.printed.result _ _ (λ rs e. subst (AreNearest c.args.trips.now (target_operand c.args.to.now) c.args.k) (sym (e ∙ c.as_slice.ensures.value)) are) c.printed.ensures.printed

pub returns-clause-passed : goal.returns-clause-passed
returns-clause-passed c =
    let are = rw c.asked.ensures.same at c.in_ok-rows.ensures.nearest in
    IfErr-weaker c.printed.result _ _ (λ f h. unprintable c.args.trips.now (target_operand c.args.to.now) c.args.k c.in_ok-rows.rows.items are f (rw c.as_slice.ensures.value at h)) c.printed.ensures.large
