use Rattle.mob_numeral.proofs.NonZero.{figures_nonzero}
use Rattle.mob_numeral.proofs.laws.numbers_with_figures.Goals as goal

pub returns-clause-numbers : goal.returns-clause-numbers
returns-clause-numbers c = λ text q h l. figures_nonzero text l.0 q h l.1 l.5

pub returns-clause-whole : goal.returns-clause-whole
returns-clause-whole c = λ text q h l. figures_nonzero text l.0 q h l.1 l.5
