use Rattle.mob_numeral.proofs.AnyCase.{word_left}
use Rattle.mob_numeral.proofs.words.any_case_at.Goals as goal

pub returns-in_default : goal.returns-in_default
returns-in_default c = record { read = word_left c.args.word.now c.loop-letter.letter-index c.loop-letter.rest.now c.args.bytes.now c.loop-letter-test.true c.in_default.len_below c.loop-letter.invariant }
