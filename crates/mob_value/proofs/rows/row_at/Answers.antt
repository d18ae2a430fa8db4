use Rattle.std.proofs.Common.{arith}
use Rattle.mob_value.{specs.Cuts.{cut}, proofs.Cutting.{cut_count, no_row, row_is}}
use Rattle.mob_value.proofs.rows.row_at.Goals as goal

pub returns-then-number-ends : goal.returns-then-number-ends
returns-then-number-ends g c =
    let count = cut_count 0 c.args.ends.now c.args.items.now in
    record { row = no_row (cut 0 c.args.ends.now c.args.items.now) c.args.number (omega (arith, count, c.if-number-ends.true)) }

pub returns : goal.returns
returns g c = record { row = row_is c.args.ends.now c.args.items.now c.args.number c.bounds_of-start.result.0 c.bounds_of-start.result.1 c.requires.cuts (omega (arith, c.if-number-ends.false)) c.bounds_of-start.ensures.start c.bounds_of-start.ensures.end }
