use Rattle.std.specs.Prelude.{pos}
use Rattle.mob_ratio.specs.Ratio.{whole}
use Rattle.mob_arith.proofs.Zero.{is_same_test}
use Rattle.mob_arith.proofs.sql.numbers.is_nil.Goals as goal

pub returns : goal.returns
returns c = record { value = is_same_test c.is_zero.result c.args.number.now (whole (pos 0)) c.is_zero.ensures.zero }
