use Rattle.mob_meaning.proofs.Recalling.{agree, follow}
use Rattle.mob_meaning.proofs.remembered.recalls_agree.Goals as goal

pub returns : goal.returns
returns c = record { sound = agree; complete = follow c.one_outcome.ensures.outcome }
