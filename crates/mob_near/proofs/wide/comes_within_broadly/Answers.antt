use Rattle.mob_slice.specs.Sides.{piece_of}
use Rattle.mob_near.{proofs.Answering.{square_up_to}, proofs.Widely.{far_piece}}
use Rattle.mob_near.proofs.wide.comes_within_broadly.Goals as goal

pub returns-then-is_far : goal.returns-then-is_far
returns-then-is_far c = record { value = far_piece c.args.d.now c.args.square.now (piece_of c.args.piece.now) c.requires.holds c.requires.some c.requires.distance c.requires.square (c.is_far.ensures.far c.if-is_far.true) }

pub reaches_broadly-requires : goal.reaches_broadly-requires
reaches_broadly-requires c = record { square = square_up_to c.args.d.now c.args.square.now c.requires.square }
