use Rattle.mob_arith.proofs.Zero.{not_nil}
use Rattle.mob_arith.proofs.sql.arithmetic.plain_division.Goals as goal

pub div-requires : goal.div-requires
div-requires c = record { nonzero = not_nil c.in-Number-right.b c.is_nil.result c.is_nil.ensures.value c.if-is_nil.false }
