use Rattle.std.proofs.Common.{sym}
use Rattle.jiff_core.proofs.StandardFacts.{known_days}
use Rattle.mob_scalar.proofs.epoch.Epoch.standard.Goals as goal

pub returns : goal.returns
returns c = record { day = sym known_days.2 }
