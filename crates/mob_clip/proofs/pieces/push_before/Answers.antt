use Rattle.std.proofs.Common.{subst}
use Rattle.mob_clip.{specs.Pieces.{IsOnSlice}, proofs.Passing.{left_holds}}
use Rattle.mob_clip.proofs.pieces.push_before.Goals as goal

pub piece_on-requires-clause-holds : goal.piece_on-requires-clause-holds
piece_on-requires-clause-holds c = rw c.left_of.ensures.span (left_holds c.args.slice.now c.in-Some.span c.args.r.now c.args.included (subst (IsOnSlice c.args.slice.now) c.in-Some.is c.requires.holds) c.requires.fits)
