use Rattle.std.{proofs.Common.{◌∙◌}, proofs.lemmas.Result.{err_from_is_err_and}}
use Rattle.mob_slice.proofs.Narrowing.{given_fits}
use Rattle.mob_cells.{specs.Turnings.{turn_numbers}, proofs.TurnCells.{given_fails}}
use Rattle.mob_cells.proofs.turned.kept_wide.Goals as goal

pub returns-in_err-cuts : goal.returns-in_err-cuts
returns-in_err-cuts g c = let p = err_from_is_err_and c.from_residual.result c.from_residual.ensures.1 in record { kept = rw (p.1, p.2) (given_fails (turn_numbers c.args.turning.now.turn) c.in_err-cuts.field-0.0 c.in_err-cuts.ensures.made) }

pub kept_at-requires-clause-cuts : goal.kept_at-requires-clause-cuts
kept_at-requires-clause-cuts g c = c.as_slice.ensures.value ∙ c.in_ok-cuts.ensures.made.0

pub returns : goal.returns
returns g c = record { kept = (c.in_ok-parts.ensures.kept, given_fits (turn_numbers c.args.turning.now.turn) c.in_ok-cuts.ensures.made.1) }
