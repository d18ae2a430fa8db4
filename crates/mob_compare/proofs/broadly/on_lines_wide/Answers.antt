use Rattle.mob_slice.specs.Sides.{piece_of}
use Rattle.mob_compare.proofs.AtEach.{lines_narrow}
use Rattle.mob_compare.proofs.broadly.on_lines_wide.Goals as goal

pub returns-in-Ok : goal.returns-in-Ok
returns-in-Ok g c = record { given = lines_narrow g.C.Course.value_of g.C.Course.parts_of g.C.Compared.gaps_of (g.C.Compared.relation c.args.rel) c.in-Ok.flags.items (piece_of c.args.piece.now) c.in-Ok.ensures.given }
