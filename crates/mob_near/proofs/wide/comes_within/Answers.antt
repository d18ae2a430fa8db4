use Rattle.mob_slice.specs.Sides.{piece_of}
use Rattle.mob_near.proofs.Widely.{far_piece}
use Rattle.mob_near.proofs.wide.comes_within.Goals as goal

pub returns-then-is_skipped : goal.returns-then-is_skipped
returns-then-is_skipped c = record { value = far_piece c.args.d.now c.args.square.now (piece_of c.args.piece.now) c.requires.holds c.requires.some c.requires.distance c.requires.square (c.is_skipped.ensures.far c.if-is_skipped.true) }
