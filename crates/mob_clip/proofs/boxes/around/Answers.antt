use Rattle.mob_clip.proofs.InTime.{front_fits, back_fits}
use Rattle.mob_clip.proofs.boxes.around.Goals as goal

pub piece_on-requires-clause-holds : goal.piece_on-requires-clause-holds
piece_on-requires-clause-holds c = rw c.front.ensures.span (front_fits c.args.slice.now c.args.part.now c.requires.holds.1 c.lower.ensures.some c.requires.ends)

pub piece_on-requires-2-clause-holds : goal.piece_on-requires-2-clause-holds
piece_on-requires-2-clause-holds c = rw c.back.ensures.span (back_fits c.args.slice.now c.args.part.now c.requires.holds.1 c.lower.ensures.some c.requires.ends)
