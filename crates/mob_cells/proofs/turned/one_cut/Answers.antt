use Rattle.std.{proofs.Common.{[], ◌∷◌, ◌++◌, ap, ◌∙◌}, proofs.lemmas.Result.{err_from_is_err_and}}
use Rattle.mob_cells.proofs.turned.one_cut.Goals as goal

pub returns-in_err-at : goal.returns-in_err-at
returns-in_err-at c = let p = err_from_is_err_and c.from_residual.result c.from_residual.ensures.1 in record { made = rw (p.1, p.2) c.in_err-at.ensures.made }

pub returns : goal.returns
returns c = record { made = (c.in_ok-push.ensures.items ∙ ap (λ z. z ++ c.in_ok-at.at ∷ []) c.new-cuts.ensures.items ∙ ap (λ z. z ∷ []) c.in_ok-at.ensures.made.0, c.in_ok-at.ensures.made.1) }
