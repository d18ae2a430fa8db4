use Rattle.std.proofs.Common.{◌≡◌, length}
use Rattle.mob_language.specs.NonZero.{has_figure}
use Rattle.mob_expression.proofs.words.has_figure.Given as goal

abbrev pub invariant-figures : goal.invariant-figures
invariant-figures l = has_figure l.rest ≡ has_figure l.text

abbrev pub decreases-figures : goal.decreases-figures
decreases-figures l = length l.rest
