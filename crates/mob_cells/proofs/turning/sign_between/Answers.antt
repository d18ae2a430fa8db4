use Rattle.mob_cells.proofs.GapTurns.{between_nil, between_some}
use Rattle.mob_cells.proofs.turning.sign_between.Goals as goal

pub returns-then-is_zero : goal.returns-then-is_zero
returns-then-is_zero c = record { value = cc (between_nil c.args.f.now c.args.g.now c.is_zero.result c.is_zero.ensures.zero c.if-is_zero.true) }

pub returns : goal.returns
returns c = record { value = cc (between_some c.args.f.now c.args.g.now c.is_zero.result c.is_zero.ensures.zero c.if-is_zero.false) }
