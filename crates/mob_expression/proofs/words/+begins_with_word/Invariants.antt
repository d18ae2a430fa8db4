use Rattle.std.proofs.Common.{length}
use Rattle.mob_expression.proofs.words.+begins_with_word.Given as goal

abbrev pub decreases-begins_with_word : goal.decreases-begins_with_word
decreases-begins_with_word l = length l.text.now
