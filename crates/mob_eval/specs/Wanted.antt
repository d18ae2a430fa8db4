-- Which of two restrictions an operator is.
use Rattle.std.specs.Prelude.{Bool, true, false}
use Rattle.mob_operators.specs.declared.operator.Op.{Op}
use Rattle.mob_operators.specs.declared.operator.Op.TheVariants as op

-- whether a restriction keeps what it asks for, as atTime does, or the rest, as minusTime does
abbrev pub wanted : Op → Bool
wanted op.AtTime = true
wanted op.AtValues = true
wanted op.AtStbox = true
wanted op.AtGeometry = true
wanted _ = false
