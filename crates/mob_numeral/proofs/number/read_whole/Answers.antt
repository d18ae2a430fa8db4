use Rattle.mob_numeral.proofs.WholeNumbers.{same_fault}
use Rattle.mob_numeral.proofs.number.read_whole.Goals as goal

pub returns-in-Err-clause-reading : goal.returns-in-Err-clause-reading
returns-in-Err-clause-reading c = same_fault c.args.text.now c.in-Err.fault c.in-Err.ensures.reading
