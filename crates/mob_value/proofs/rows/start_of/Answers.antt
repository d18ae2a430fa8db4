use Rattle.std.proofs.Common.{arith}
use Rattle.mob_value.proofs.Cutting.{start_is}
use Rattle.mob_value.proofs.rows.start_of.Goals as goal

pub returns : goal.returns
returns c = record { start = start_is 0 c.args.ends.now c.args.number 0 (omega (arith, c.if-number-eq0.false)) c.requires.there }
