use Rattle.mob_numeral.proofs.Powers.{raised_wide}
use Rattle.mob_numeral.proofs.number.raised.Goals as goal

pub returns-then-size-ge-SIZE : goal.returns-then-size-ge-SIZE
returns-then-size-ge-SIZE c = record { exact = raised_wide c.args.negative c.args.size c.args.up c.if-size-ge-SIZE.true }
