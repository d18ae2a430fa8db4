use Rattle.mob_slice.specs.Sides.{piece_of}
use Rattle.mob_near.proofs.Widely.{beyond_piece}
use Rattle.mob_near.proofs.wide.nearer_broadly.Goals as goal

pub returns-then-beyond : goal.returns-then-beyond
returns-then-beyond c = record { value = beyond_piece (piece_of c.args.piece.now) c.args.found.now c.requires.holds c.requires.some (c.in_ok-beyond.ensures.beyond c.if-beyond.true) }
