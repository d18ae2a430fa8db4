use Rattle.std.specs.Prelude.{List}
use Rattle.mob_slice.{specs.declared.slice.Slice.{Slice}, specs.declared.line.PlaneLine.{PlaneLine}}
use Rattle.mob_grid.specs.declared.tile.Tile.{Tile}
use Rattle.mob_tile.proofs.OneAnswer.{answer_apart, one_fault}
use Rattle.mob_tile.proofs.laws.one_answer.Goals as goal

pub returns : goal.returns
returns c = record { apart = answer_apart (List (Tile × List (Slice PlaneLine))); one = one_fault (List (Tile × List (Slice PlaneLine))) }
