use Rattle.mob_plane.proofs.DifferenceSigns.{sign_is}
use Rattle.mob_plane.proofs.edges.sign.Goals as goal

pub returns : goal.returns
returns c = record { sign = sign_is c.args.x.now c.zero.result c.compare.result c.zero.ensures.value c.compare.ensures.order }
