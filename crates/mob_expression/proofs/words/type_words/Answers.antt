use Rattle.std.proofs.Common.{refl}
use Rattle.mob_expression.specs.Words.{type_words}
use Rattle.mob_expression.proofs.words.type_words.Goals as goal

-- checked over the whole list
pub returns : goal.returns
unfolding type_words
returns c = record { all = refl }
