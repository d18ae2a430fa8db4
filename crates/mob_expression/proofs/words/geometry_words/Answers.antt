use Rattle.std.proofs.Common.{refl}
use Rattle.mob_expression.specs.Words.{geometry_words}
use Rattle.mob_expression.proofs.words.geometry_words.Goals as goal

-- checked over the whole list
pub returns : goal.returns
unfolding geometry_words
returns c = record { all = refl }
