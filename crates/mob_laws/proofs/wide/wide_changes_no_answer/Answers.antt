use Rattle.mob_laws.proofs.WideAnswers.{reads_the_same, writes_the_same, ends_the_same}
use Rattle.mob_laws.proofs.wide.wide_changes_no_answer.Goals as goal

pub returns : goal.returns
returns c = record { reads = reads_the_same; writes = writes_the_same; ends = ends_the_same }
