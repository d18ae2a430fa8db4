use Rattle.mob_accept.proofs.OneRefusal.{one_refusal}
use Rattle.mob_accept.proofs.laws.one_text_refusal.Goals as goal

pub returns : goal.returns
returns c = record { refusal = one_refusal }
