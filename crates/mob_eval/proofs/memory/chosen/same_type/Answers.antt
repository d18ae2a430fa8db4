use Rattle.std.proofs.Common.{rules, sym, ◌∙◌}
use Rattle.mob_ast.specs.contracts.types.SqlType.{the_type}
use denote.Enum.Bare.{same_true}
use Rattle.mob_eval.proofs.memory.chosen.same_type.Goals as goal

pub returns : goal.returns
returns c = record { same = λ h. same_true the_type (search rules) _ _ (sym c.eq.ensures ∙ h) }
