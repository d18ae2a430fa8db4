use Rattle.std.proofs.Common.{drop}
use Rattle.mob_clip.proofs.Passing.{IsPassing}
use Rattle.mob_clip.proofs.pieces.kept_on.Given as goal

abbrev pub invariant-loop-change : goal.invariant-loop-change
invariant-loop-change l = IsPassing l.slice l.want l.steps l.rest l.now (drop l.change-index l.changes) l.out.items
