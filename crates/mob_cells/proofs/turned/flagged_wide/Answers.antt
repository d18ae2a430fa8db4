use Rattle.std.{proofs.Common.{◌∙◌}, proofs.lemmas.Result.{err_from_is_err_and}}
use Rattle.mob_slice.proofs.Narrowing.{given_fits}
use Rattle.mob_cells.{specs.Turnings.{turn_numbers}, proofs.TurnCells.{given_fails}}
use Rattle.mob_cells.proofs.turned.flagged_wide.Goals as goal

pub returns-in_err-cuts : goal.returns-in_err-cuts
returns-in_err-cuts c = let p = err_from_is_err_and c.from_residual.result c.from_residual.ensures.1 in record { flags = rw (p.1, p.2) (given_fails (turn_numbers c.args.turning.now.turn) c.in_err-cuts.field-0.0 c.in_err-cuts.ensures.made) }

pub flags_at-requires-clause-cuts : goal.flags_at-requires-clause-cuts
flags_at-requires-clause-cuts c = c.as_slice.ensures.value ∙ c.in_ok-cuts.ensures.made.0

pub returns : goal.returns
returns c = record { flags = (c.in_ok-flags.ensures.flags, given_fits (turn_numbers c.args.turning.now.turn) c.in_ok-cuts.ensures.made.1) }
