use Rattle.std.proofs.Common.{◌≡◌, ◌++◌, map, option_map}
use Rattle.mob_typed.specs.Trees.{typed_of}
use Rattle.mob_plan.specs.Plans.{step_seen}
use Rattle.mob_tail.{specs.PlanAnswers.{plan_rows}, proofs.PlanRows.{rows_behind}}
use Rattle.mob_tail.proofs.plans.lines_of.Given as goal

abbrev pub invariant-loop-place : goal.invariant-loop-place
invariant-loop-place l = let joins = map (option_map typed_of) l.joins in l.rows ++ rows_behind l.catalog joins l.steps l.names l.place ≡ plan_rows l.catalog joins 0 (map step_seen l.steps) l.names
