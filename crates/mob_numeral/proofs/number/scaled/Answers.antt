use Rattle.std.proofs.Common.{arith}
use Rattle.mob_numeral.proofs.Powers.{up_wins, down_wins}
use Rattle.mob_numeral.proofs.number.scaled.Goals as goal

pub returns-then-up-down : goal.returns-then-up-down
returns-then-up-down c = record { exact = rw (up_wins c.args.negative c.args.size c.args.up c.args.down c.if-up-down.true) c.raised.ensures.exact }

pub returns-else-up-down : goal.returns-else-up-down
returns-else-up-down c = record { exact = rw (down_wins c.args.negative c.args.size c.args.up c.args.down (omega arith)) c.lowered.ensures.exact }
