use Rattle.mob_laws.proofs.BlankedScripts.{blanked_accepted}
use Rattle.mob_laws.proofs.indexes.blanked_scripts_are_accepted.Goals as goal

pub returns : goal.returns
returns c = record { accepted = blanked_accepted }
