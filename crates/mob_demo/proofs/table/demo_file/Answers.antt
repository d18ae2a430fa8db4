use Rattle.std.proofs.Common.{arith, string_bytes}
use Rattle.mob_demo.proofs.Lines.{one_line_more}
use Rattle.mob_demo.proofs.table.demo_file.Goals as goal

pub loop-ship-preserved : goal.loop-ship-preserved
loop-ship-preserved c =
    one_line_more c.loop-ship.ship c.args.ships (string_bytes c.loop-ship.file) (string_bytes c.push_line.new.into) _
    (omega (arith, c.loop-ship-test.true)) c.in_ok-push_line.ensures.line c.loop-ship.invariant
