use Rattle.std.{specs.Borrow.{Bor}, proofs.Common.{Ok, map, take}}
use Rattle.mob_typed.specs.declared.typed.TExpr.{TExpr}
use Rattle.mob_meaning.specs.Evaluation.{TreeEvaluatesTo}
use Rattle.mob_eval.{specs.Views.{scene_of}, specs.Remembered.{root_seen}}
use Rattle.mob_arrange.specs.RowValues.{row_value}
use Rattle.mob_tail.specs.IsMadeOfEach.{IsMadeOfEach}
use Rattle.mob_tail.proofs.evaluation.values_on.Given as goal

abbrev pub invariant-loop-root : goal.invariant-loop-root
invariant-loop-root g l = IsMadeOfEach (λ (e : Bor TExpr). TreeEvaluatesTo (scene_of l.view) (root_seen e)) (take l.root-index l.roots) (Ok (map row_value l.made.items))
