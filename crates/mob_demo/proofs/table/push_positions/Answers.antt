use Rattle.std.proofs.Common.{arith, string_bytes}
use Rattle.mob_demo.proofs.Positions.{one_position_more}
use Rattle.mob_demo.proofs.table.push_positions.Goals as goal

pub loop-minute-preserved : goal.loop-minute-preserved
loop-minute-preserved c =
    one_position_more c.loop-minute.minute c.args.ship (string_bytes c.loop-minute.into) (string_bytes c.push_str.new.self) (string_bytes c.push_position-in-loop-minute.new.into) _
    (omega (arith, c.loop-minute-test.true)) c.in_ok-push_str.ensures.bytes c.in_ok-push_position-2.ensures.position c.loop-minute.invariant
