use Rattle.std.proofs.Common.{sym, ◌∙◌}
use Rattle.mob_slice.specs.Sides.{piece_of}
use Rattle.mob_legs.{specs.Broad.{as_leg}, proofs.Broadly.{long_approach, short_approach}}
use Rattle.mob_legs.proofs.broad.piece.broad_approach.Goals as goal

pub returns-then-is_long : goal.returns-then-is_long
returns-then-is_long c = record { value = long_approach (piece_of c.args.piece.now) (as_leg c.in_ok-leg.leg) c.in_ok-leg.ensures.leg c.leg_approach.result (sym c.is_long.ensures.value ∙ c.if-is_long.true) c.leg_approach.ensures.value }

pub returns : goal.returns
returns c = record { value = short_approach (piece_of c.args.piece.now) (as_leg c.in_ok-leg.leg) c.in_ok-leg.ensures.leg c.first_square.result (sym c.is_long.ensures.value ∙ c.if-is_long.false) c.first_square.ensures.value }
