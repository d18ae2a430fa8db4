use Rattle.std.{proofs.Common.{ap, ◌∙◌}, proofs.lemmas.Result.{err_from_is_err_and}}
use Rattle.mob_typed.specs.Trees.{typed_of}
use Rattle.mob_ordinary.specs.Ordinary.{is_true_value}
use Rattle.mob_meaning.proofs.Values.{true_by_value, evaluates_to_its_value}
use Rattle.mob_value.specs.Held.{held}
use Rattle.mob_eval.specs.Views.{scene_of}
use Rattle.mob_eval.proofs.condition.holds_with.Goals as goal

pub returns-in_err-held-clause-fault : goal.returns-in_err-held-clause-fault
returns-in_err-held-clause-fault g c = let p = err_from_is_err_and c.from_residual.result c.from_residual.ensures.1 in rw (p.1, p.2) c.in_err-held.ensures.fault

pub returns-clause-value : goal.returns-clause-value
returns-clause-value g c =
    let s = scene_of c.args.view.now in
    let e = typed_of c.args.e.now in
    let v = held c.in_ok-held.held in
    true_by_value s e v _ (evaluates_to_its_value s e v c.in_ok-held.ensures.value) (c.is_true_value-truth.ensures.value ∙ ap is_true_value c.get.ensures.value)
