use Rattle.mob_slice.specs.Sides.{piece_of}
use Rattle.mob_cells.specs.Coordinates.{as_gaps}
use Rattle.mob_compare.proofs.Widely.{met_alike}
use Rattle.mob_compare.proofs.ever.wide.meets_broadly.Goals as goal

pub returns : goal.returns
returns g c = record { met = met_alike g.C.Course.STEADY g.C.Course.value_of g.C.Course.start_of g.C.Compared.relation g.C.Compared.gaps_of c.args.rel c.args.want (piece_of c.args.piece.now) c.lower.result.now c.upper.result.now (as_gaps c.in_ok-first.first) (as_gaps c.in_ok-last.last) c.in_ok-small.small c.gaps_meet-met.result c.requires.moves c.lower.ensures.value c.upper.ensures.value c.in_ok-first.ensures.gaps c.in_ok-last.ensures.gaps c.in_ok-small.ensures.alike c.gaps_meet-met.ensures.value }
