use Rattle.mob_shell.proofs.SameAnswers.{end_the_same, read_the_same, write_the_same}
use Rattle.mob_shell.proofs.laws.workers_change_nothing.Goals as goal

pub returns : goal.returns
returns c = record { read = read_the_same; endings = end_the_same; text = write_the_same }
