use Rattle.mob_chars.proofs.Along.{are_laid}
use Rattle.mob_chars.proofs.laws.tokens_are_laid.Goals as goal

pub returns : goal.returns
returns c = record { laid = are_laid }
