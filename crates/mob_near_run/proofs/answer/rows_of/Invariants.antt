use Rattle.std.proofs.Common.{◌≡◌, map, take}
use Rattle.mob_near_run.specs.NearAnswers.{near_fields}
use Rattle.mob_near_run.proofs.answer.rows_of.Given as goal

abbrev pub invariant-loop-entry : goal.invariant-loop-entry
invariant-loop-entry l = l.rows ≡ map (near_fields l.epoch l.ids) (take l.entry-index l.found)
