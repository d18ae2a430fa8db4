use Rattle.std.proofs.Common.{ap, subst, sym}
use Rattle.mob_language.{specs.Language.{Text, is_digit}, proofs.Exact.{split_parts}}
use Rattle.mob_numeral.specs.Figures.{AreFigures}
use Rattle.mob_numeral.proofs.numeral.digits_at.Goals as goal

pub value_of-requires-clause-all : goal.value_of-requires-clause-all
value_of-requires-clause-all c =
    subst AreFigures (sym (ap (λ (p : Text × Text). p.0) c.split_digits.ensures.value)) (split_parts is_digit c.args.bytes.now).1
