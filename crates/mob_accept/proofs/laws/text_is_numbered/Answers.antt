use Rattle.mob_accept.proofs.Numbered.{operators_are_numbered, text_is_numbered, trees_are_numbered, typing_keeps_numbers}
use Rattle.mob_accept.proofs.laws.text_is_numbered.Goals as goal

pub returns : goal.returns
returns c = record { trees = trees_are_numbered; typing = typing_keeps_numbers; numbers = text_is_numbered; operators = operators_are_numbered }
