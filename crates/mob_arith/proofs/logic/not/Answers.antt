use Rattle.std.proofs.Common.{◌∙◌, true}
use Rattle.mob_slice.{specs.Slices.{value_at}, specs.Operands.{steady_value, steady_limit}}
use Rattle.mob_arith.{specs.Operations.{differ}, proofs.Alone.{never_none, turned}}
use Rattle.mob_arith.proofs.logic.not.Goals as goal

pub returns-in-Ok-Some : goal.returns-in-Ok-Some
returns-in-Ok-Some c = record { value = λ t. (rw c.in-Ok-Some.field-0-is at c.in-Ok-Some.ensures.value) t ∙ turned (value_at steady_value c.args.a.now t) }

pub unreachable-requires : goal.unreachable-requires
unreachable-requires c = never_none steady_value steady_limit steady_limit _ differ c.args.a.now true c.slices.ensures.normal (rw c.in-Ok-None.field-0-is at c.in-Ok-None.ensures.value)
