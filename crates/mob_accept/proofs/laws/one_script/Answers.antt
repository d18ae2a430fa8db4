use Rattle.mob_accept.proofs.OneScript.{never_taken_and_refused, one_script}
use Rattle.mob_accept.proofs.laws.one_script.Goals as goal

pub returns : goal.returns
returns c = record { script = one_script; apart = never_taken_and_refused }
