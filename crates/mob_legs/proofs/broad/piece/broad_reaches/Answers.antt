use Rattle.std.proofs.Common.{sym, ◌∙◌}
use Rattle.mob_slice.specs.Sides.{piece_of}
use Rattle.mob_legs.{specs.Broad.{as_leg}, proofs.Broadly.{long_reaches, short_reaches}}
use Rattle.mob_legs.proofs.broad.piece.broad_reaches.Goals as goal

pub returns-then-is_long : goal.returns-then-is_long
returns-then-is_long c = record { value = long_reaches (piece_of c.args.piece.now) (as_leg c.in_ok-leg.leg) c.in_ok-leg.ensures.leg c.args.square.now c.leg_reaches.result (sym c.is_long.ensures.value ∙ c.if-is_long.true) c.leg_reaches.ensures.value }

pub returns : goal.returns
returns c = record { value = short_reaches (piece_of c.args.piece.now) (as_leg c.in_ok-leg.leg) c.in_ok-leg.ensures.leg c.args.square.now c.first_reaches.result (sym c.is_long.ensures.value ∙ c.if-is_long.false) c.first_reaches.ensures.value }
