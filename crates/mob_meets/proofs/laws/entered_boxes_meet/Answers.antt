use Rattle.mob_meets.proofs.Looking.{entered}
use Rattle.mob_meets.proofs.laws.entered_boxes_meet.Goals as goal

pub returns : goal.returns
returns c = record { meet = entered }
