use Rattle.mob_list.proofs.Changing.{AreChanged}
use Rattle.mob_eval.specs.Views.{scene_of}
use Rattle.mob_tail.specs.GroupSteps.{IsMemoWith}
use Rattle.mob_tail.proofs.group_memos.memos_with.Given as goal

abbrev pub invariant-loop-number : goal.invariant-loop-number
invariant-loop-number l = AreChanged (IsMemoWith (scene_of l.view) l.is_first) l.number l.fn.memos.items l.memos.items
