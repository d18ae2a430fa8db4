use Rattle.mob_slice.specs.Sides.{side_at, side_of}
use Rattle.mob_cells.{specs.Coordinates.{as_gaps}, proofs.Apart.{gaps_by}}
use Rattle.mob_cells.proofs.broad_gaps.gaps_at.Goals as goal

pub returns : goal.returns
returns g c = record { gaps = gaps_by g.C.Compared.gaps_of g.C.HasCoordinates.coordinates_of g.met.C.HasCoordinates.apart (side_at g.C.Course.value_of (side_of c.args.piece.now.left) c.args.t.now) (side_at g.C.Course.value_of (side_of c.args.piece.now.right) c.args.t.now) (as_gaps c.in_ok-left.left) (as_gaps c.in_ok-right.right) c.in_ok-left.ensures.value c.in_ok-right.ensures.value c.apart.result c.apart.ensures.apart }
